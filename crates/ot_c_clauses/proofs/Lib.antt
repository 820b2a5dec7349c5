mod OwnLemmas
