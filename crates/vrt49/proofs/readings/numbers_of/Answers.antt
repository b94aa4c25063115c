-- `numbers_of` meets its promise: case by case.
use mir.Facts.{to_z-of_z}
use mir.Syntax.{w64}
use lib.Ieee.{of_bits}
use Rattle.vrt49.proofs.ReadingLaws.{numbers_told, numbers_frequency}
use borrow.Author.Rules.{rules, sfits_of}
use Rattle.vrt49.proofs.readings.numbers_of.Goals as goal

pub returns-in-Frequency : goal.returns-in-Frequency
unfolding of_bits
returns-in-Frequency c = numbers_frequency _ _ _ _ (to_z-of_z {w = w64} (search rules)) c.in-Frequency.is

pub returns-in-Level : goal.returns-in-Level
unfolding of_bits
returns-in-Level c = numbers_told _ _ _ c.levelled.ensures c.in-Level.is

pub returns-in-Gain : goal.returns-in-Gain
unfolding of_bits
returns-in-Gain c = numbers_told _ _ _ c.levelled-in-Gain.ensures c.in-Gain.is

pub returns-in-Temperature : goal.returns-in-Temperature
unfolding of_bits
returns-in-Temperature c = numbers_told _ _ _ c.levelled-in-Temperature.ensures c.in-Temperature.is

pub returns-in-Other : goal.returns-in-Other
unfolding of_bits
returns-in-Other c = numbers_told _ _ _ c.levelled-in-Other.ensures c.in-Other.is

pub returns-in-Absent : goal.returns-in-Absent
unfolding of_bits
returns-in-Absent c = numbers_told _ _ _ c.levelled-in-Absent.ensures c.in-Absent.is
