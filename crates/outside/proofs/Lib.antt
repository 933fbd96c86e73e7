pub mod BytesLemmas
pub mod BufferingLemmas
