mod OwnLemmas
mod Finding
