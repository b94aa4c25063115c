-- `run_on` meets its promise. The invariant `Running` says that the entries so far and the walk that is left are the whole walk; its laws carry the turn.
use Rattle.words.proofs.Kit.{◌≡◌, ◌-◌, ◌/◌, arith, length, rules}
use Rattle.play.specs.Run.{entry_words, walk_of}
use Rattle.play.proofs.EntryLaws.{noted_small, unread_small}
use Rattle.play.proofs.RunLaws.{Running, running_start, running_over, running_full, running_end}
use Rattle.play.proofs.RunLaws.{written_long, stopped_placeable, turned, stopped_same, stopped_done}
use Rattle.play.proofs.run.run_on.Given as goal

abbrev pub invariant-loop-n : goal.invariant-loop-n
invariant-loop-n l =
    (l.most ≡ length l.initial.answers / entry_words)
    × Running l.most l.recording l.from l.initial.table l.initial.answers l.table l.answers l.n (walk_of (l.most - l.n) l.recording l.at l.table)
