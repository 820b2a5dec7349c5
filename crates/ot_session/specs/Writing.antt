use Rattle.ot_session.specs.declared.writer.Writing.{Writing}

-- the writer that the sink writes to
abbrev pub writer_of : {W : Type 0} → Writing W → W
writer_of sink = sink.writer
