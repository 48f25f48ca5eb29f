mod NumberLemmas
mod ReportLemmas
mod VariantLemmas
