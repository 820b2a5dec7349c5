use Rattle.ot_lines.specs.declared.reader.Reading.{Reading}

-- the reader that the source reads from
abbrev pub reader_of : {R : Type 0} → Reading R → R
reader_of source = source.reader
