-- Names as numbers: the bytes of a word, the first with the least weight; and the words of the language.
use Rattle.std.specs.Prelude.{ℕ, zero, suc, Bool, true, false, ◌+◌, ◌*◌, ◌/◌, ◌%◌, cond, List, [], ◌∷◌, codes, ◌==◌}
use Rattle.words.specs.declared.Word.{Word}
use Rattle.words.specs.declared.Word.TheVariants.{Kind, Say, Send, To, After, If, Else, End, Again, Thing, Message, Draw, It, Me, Now, Name}

-- A word as one number.
unfoldable pub pack : List ℕ → ℕ
pack [] = 0
pack (b ∷ bs) = b + 256 * pack bs

-- The word that a packed one stands for, at most n bytes of it.
unfoldable pub unpack_upto : ℕ → ℕ → List ℕ
unpack_upto zero p = []
unpack_upto (suc n) p = cond (p == 0) [] ((p % 256) ∷ unpack_upto n (p / 256))

abbrev pub unpack : ℕ → List ℕ
unpack p = unpack_upto 8 p

-- Which word of the language a packed one is, or the name.
abbrev pub word_by : ℕ → Word
word_by p =
    cond (p == 1684957547) Kind (cond (p == 7954803) Say (cond (p == 1684956531) Send (cond (p == 28532) To (cond (p == 491328398945) After (cond (p == 26217) If (cond (p == 1702063205) Else (cond (p == 6581861) End (cond (p == 474214393697) Again (cond (p == 444234033268) Thing (cond (p == 28542640894207341) Message (cond (p == 2002874980) Draw (cond (p == 29801) It (cond (p == 25965) Me (cond (p == 7827310) Now (Name p)))))))))))))))

-- Which word of the language it is, or the name, packed.
abbrev pub word_of : List ℕ → Word
word_of w = word_by (pack w)

-- How each is spelled.
abbrev pub spelling : Word → List ℕ
spelling Kind = codes "kind"
spelling Say = codes "say"
spelling Send = codes "send"
spelling To = codes "to"
spelling After = codes "after"
spelling If = codes "if"
spelling Else = codes "else"
spelling End = codes "end"
spelling Again = codes "again"
spelling Thing = codes "thing"
spelling Message = codes "message"
spelling Draw = codes "draw"
spelling It = codes "it"
spelling Me = codes "me"
spelling Now = codes "now"
spelling (Name p) = unpack p

-- Whether it may stand where a number is wanted.
abbrev pub stands_for_number : Word → Bool
stands_for_number Kind = false
stands_for_number Say = false
stands_for_number Send = false
stands_for_number To = false
stands_for_number After = false
stands_for_number If = false
stands_for_number Else = false
stands_for_number End = false
stands_for_number Again = false
stands_for_number Thing = false
stands_for_number Message = false
stands_for_number Draw = false
stands_for_number It = true
stands_for_number Me = true
stands_for_number Now = true
stands_for_number (Name p) = true
