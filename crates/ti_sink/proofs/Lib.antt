pub mod PagesLemmas
pub mod PrintedLemmas
