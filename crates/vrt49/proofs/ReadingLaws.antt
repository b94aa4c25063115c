-- The numbers of a reading, by its case.
use Rattle.words.proofs.Kit.{◌≡◌, sym, ap, ◌∙◌, ℕ}
use lib.IntN.{ℤ}
use Rattle.panel.specs.declared.FieldReading.{FieldReading}
use Rattle.panel.specs.declared.FieldReading.TheVariants as dial
use Rattle.panel.specs.Readings.{shown_in}
use Rattle.vrt49.specs.declared.readings.Values.{Values}
use Rattle.vrt49.specs.Readings.{plus_zero, numbers_of}

-- those of a reading that is known
pub numbers_told : (d e : FieldReading) (v : Values) → v ≡ numbers_of (shown_in e) → d ≡ e → v ≡ numbers_of (shown_in d)
numbers_told d e v f g = f ∙ ap (λ (x : FieldReading). numbers_of (shown_in x)) (sym g)

pub numbers_frequency : (d : FieldReading) (hertz z : ℤ) (parts : ℕ) → hertz ≡ z → d ≡ dial.Frequency z parts
    → record { kind = 1; parts = parts; hertz = hertz; first = plus_zero; second = plus_zero } ≡ numbers_of (shown_in d)
numbers_frequency d hertz z parts f g = rw (f, g)
