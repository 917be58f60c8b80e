-- Lines of a kind by their sort, and lines by how they close and how many may still come; the trees are left out.
use Rattle.std.specs.Prelude.{ℕ}
use Rattle.grammar.specs.Parse.{Close}
use Rattle.grammar.specs.Check.{Block, Head, ends, elses, assigns, draws, says, sends, whens, agains}
use Rattle.words.specs.declared.Word.{Word}
use Rattle.words.specs.Reads.{close_of}
use Rattle.checker.specs.declared.lines.Sort.{Sort}
use Rattle.checker.specs.declared.lines.Sort.TheVariants.{End, Else, Simple, Again, If}
use Rattle.words.specs.declared.Closing.{Closing}

-- What sort of line it is.
abbrev pub sort_of : Head → Sort
sort_of ends = End
sort_of elses = Else
sort_of (assigns w t) = Simple
sort_of (draws w t) = Simple
sort_of (says t) = Simple
sort_of (sends t u v) = Simple
sort_of (whens t) = If
sort_of (agains t) = Again

-- The sort of a line that begins with a word.
abbrev pub sort_by : Word → Sort
sort_by Word.Kind = Simple
sort_by Word.Say = Simple
sort_by Word.Send = Simple
sort_by Word.To = Simple
sort_by Word.After = Simple
sort_by Word.If = If
sort_by Word.Else = Else
sort_by Word.End = End
sort_by Word.Again = Again
sort_by Word.Thing = Simple
sort_by Word.Message = Simple
sort_by Word.Draw = Simple
sort_by Word.It = Simple
sort_by Word.Me = Simple
sort_by Word.Now = Simple
sort_by (Word.Name p) = Simple

-- How lines close, and how many lines may still come.
pub record Shape : Type 0 where
  pub close : Close
  pub left : ℕ

abbrev pub shape : Block → Shape
shape b = record { close = b.close; left = b.left }

abbrev pub shape_of : Closing × ℕ → Shape
shape_of e = record { close = close_of e.0; left = e.1 }
