-- Lent places as a row.
use Rattle.text.specs.declared.loader.Slots.{Slots}
use Rattle.text.specs.Writes.{Row, row_of}

abbrev pub row_in : {A : Type 0} → Slots A → Row A
row_in s = row_of s.used s.items.now
