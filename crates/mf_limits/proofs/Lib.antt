mod LimitLemmas
