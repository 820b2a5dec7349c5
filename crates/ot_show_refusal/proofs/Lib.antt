mod DrawnLemmas
