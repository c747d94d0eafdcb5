pub mod UnnamedLemmas
