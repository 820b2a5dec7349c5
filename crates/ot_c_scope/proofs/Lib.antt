mod CellLemmas
mod KeptLemmas
mod LayerLemmas
