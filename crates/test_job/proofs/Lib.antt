mod ThereLemmas
