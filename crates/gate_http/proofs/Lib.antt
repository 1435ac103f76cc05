mod HeadLemmas
mod DigitLemmas
mod FieldLemmas
mod RouteLemmas
mod RequestLemmas
mod BoundLemmas
mod ResponseLemmas
mod PhraseLemmas
mod ExchangeLemmas
mod WriteLemmas
mod ServingLemmas
mod GetStays
mod AskedLemmas
mod LinesLemmas
mod LawLemmas
mod GotLemmas
pub mod ConnectionLemmas
