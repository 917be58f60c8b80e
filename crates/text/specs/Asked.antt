-- What may be given with a text.
use Rattle.std.specs.Prelude.{ℕ, cond, ◌&&◌, Ok, Err, Result, nat_le}
use Rattle.checker.specs.declared.Refusal.{Refusal}
use Rattle.checker.specs.declared.Rule.TheVariants.{Lent}
use Rattle.text.specs.declared.play.Given.{Given}

-- What was given or lent is refused, by its place.
abbrev pub lent : ℕ → Refusal
lent place = record { rule = Lent; place = place }

-- The end is 1 to 2^32 - 1, the luck below 2^31, the places 1 to 65,536; else the first that isn't is refused at 1, 2 or 3.
abbrev pub settled : Given ℕ → Result (Given ℕ) Refusal
settled a =
    cond (nat_le 1 a.end && nat_le a.end 4294967295)
    (cond (nat_le a.luck 2147483647)
    (cond (nat_le 1 a.places && nat_le a.places 65536) (Ok (record { end = a.end; luck = a.luck; places = a.places })) (Err (lent 3)))
    (Err (lent 2)))
    (Err (lent 1))
