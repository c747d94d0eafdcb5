pub mod ServedLemmas
mod WorkedTraffic
