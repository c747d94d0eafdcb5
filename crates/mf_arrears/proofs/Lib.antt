pub mod ReportLemmas
pub mod FoldLemmas
pub mod SumLemmas
