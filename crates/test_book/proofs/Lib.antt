mod TwoLemmas
