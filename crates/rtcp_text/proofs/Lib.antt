mod examples
mod CheckLemmas
pub mod ClauseLemmas
mod CountedLemmas
mod DigitBlocks
mod DigitTable
mod DigitText
mod EventTextLemmas
mod FieldLemmas
mod FieldTextLemmas
mod Joined
pub mod LawLemmas
mod LinesLemmas
pub mod ListLemmas
mod NumeralLemmas
mod ProgressLemmas
pub mod OpenedLemmas
pub mod ReplayLemmas
mod RunLemmas
pub mod SessionLemmas
mod SettingsLemmas
mod SeparatorLemmas
mod TailLemmas
pub mod TextLemmas
