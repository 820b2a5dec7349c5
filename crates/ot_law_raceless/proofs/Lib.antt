mod PlaceLemmas
mod FitLemmas
mod KnownLemmas
mod StepLemmas
mod WalkLemmas
