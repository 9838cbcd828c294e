pub mod FaultLemmas
mod Plain
