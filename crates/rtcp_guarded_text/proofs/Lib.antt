mod GuardedLemmas
