mod ClientsLemmas
