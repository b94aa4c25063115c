-- `payload_whole` meets its promise: padding beyond the payload is not whole, and else the remainder decides.
use Rattle.words.proofs.Kit.{◌≡◌, ℕ, ◌*◌, ◌%◌, ◌≤◌, ◌<◌, le-leb, lt-leb, eqb, leb}
use Rattle.packet_survey.specs.Class.{pad_of}
use Rattle.packet_survey.specs.Payload.{vector_bits, payload_bits, payload_whole}
use Rattle.packet_survey.proofs.inner.Class.payload_whole.Goals as goal

module _ (high low l pad : ℕ) (p : pad ≡ pad_of high) where
  pad_beyond : 32 * l < pad → leb pad (32 * l) ≡ payload_whole high low l
  unfolding payload_whole
  pad_beyond h = rw (← p, lt-leb pad (32 * l) h)

  remainder_decides : pad ≤ 32 * l → (bits vector : ℕ) → bits ≡ payload_bits high l → vector ≡ vector_bits low → eqb (bits % vector) 0
      ≡ payload_whole high low l
  unfolding payload_whole
  remainder_decides h bits vector b v = rw (← p, le-leb pad (32 * l) h, b, v)

pub returns-then-pad-length : goal.returns-then-pad-length
returns-then-pad-length c = search remainder_decides

pub returns-else-pad-length : goal.returns-else-pad-length
returns-else-pad-length c = search pad_beyond
