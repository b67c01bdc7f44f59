mod LaneLemmas
mod TextLemmas
mod RoundLemmas
mod Turns
