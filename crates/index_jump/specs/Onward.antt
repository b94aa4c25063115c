-- Packets one after the other. Document 02, C-16: "Packets are numbered as `vrtplay` walks them, each read by its stream's choice (C-13): STREAM refusals have
-- numbers, any other ends the recording." And document 01, of `vrtplay`: it "stops when no word is left".
use Rattle.std.specs.Prelude.{ℕ, zero, suc, Bool, true, false, List}
use Rattle.words.specs.Tests.{pick}
use Rattle.play.specs.Run.{goes_on, said_at, left_at, next_of}

-- behind some packets: whether the recording has them all, the place behind them, and the table that they leave
pub record Behind : Type 0 where
  pub all : Bool
  pub place : ℕ
  pub table : List ℕ

-- where the recording ends before them
abbrev pub ended_at : ℕ → List ℕ → Behind
ended_at at t = record { all = false; place = at; table = t }

-- n packets of the words from a place on, on a table: each is played on the table that those before it left
unfoldable pub behind_packets : ℕ → List ℕ → ℕ → List ℕ → Behind
behind_packets zero ws at t = record { all = true; place = at; table = t }
behind_packets (suc n) ws at t = pick (goes_on (said_at t ws at)) (behind_packets n ws (next_of t ws at) (left_at t ws at)) (ended_at at t)
