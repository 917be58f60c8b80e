-- How bytes are read with all rules, from the left: the tree that they show, or the number of the first refusal and the bytes from its place on.
-- 1: no text goes on so. 2: a name that isn't there, or is there twice. 3: a number that is too large, a thing with more or fewer numbers than
-- its kind, a message to a thing that isn't. 4: too many lines, things, messages or bytes, or too deep.
use Rattle.std.specs.Prelude.{ℕ, zero, suc, ◌+◌, ◌-◌, ◌*◌, Bool, true, false, cond, not, ◌&&◌, ◌||◌, List, [], ◌∷◌, ◌++◌, map, length, take, drop, Some, None, codes, Option, ◌==◌, nat_le, nat_lt}
use Rattle.grammar.specs.Syntax.{is_letter, all, same, among, is_name, is_operand, newline, Term, number, word, two, Lines, none, assign, draw, say, send, when, choose, again, Kind, Thing, Note, Text}
use Rattle.grammar.specs.Parse.{Got, got, bad, expect, read_word, checked, read_name, read_number, read_sign, Close, by_end, by_else}

-- The limits: numbers are below 2^32; names of numbers to a kind; if and again in each other; lines of kinds, and bytes of such a line with its
-- end; things; messages; bytes. No expression in a line of that many bytes has more parentheses in each other.
abbrev pub too_large : ℕ
too_large = 4294967296

abbrev pub most_names : ℕ
most_names = 64

abbrev pub most_deep : ℕ
most_deep = 16

abbrev pub most_lines : ℕ
most_lines = 4096

abbrev pub line_bytes : ℕ
line_bytes = 1024

abbrev pub most_things : ℕ
most_things = 65536

abbrev pub most_notes : ℕ
most_notes = 65536

abbrev pub text_bytes : ℕ
text_bytes = 67108864

-- What was read and the bytes behind it; or a refusal's number and the bytes from its place on.
pub data Checked (A : Type 0) : Type 0 where
  taken : A → List ℕ → Checked A
  refused : ℕ → List ℕ → Checked A

-- One thing read after the other.
abbrev pub then : {A B : Type 0} → Checked A → (A → List ℕ → Checked B) → Checked B
then (taken a bs) f = f a bs
then (refused n bs) f = refused n bs

-- Where no text goes on so is refused with 1.
abbrev pub formed : {A : Type 0} → Got A → Checked A
formed (got a bs) = taken a bs
formed (bad bs) = refused 1 bs

-- Just these bytes.
abbrev pub check_literal : List ℕ → List ℕ → Checked (Unit {0})
check_literal cs bs = formed (expect cs bs)

-- The number that digits stand for, behind those that stand for a.
unfoldable pub decimal : ℕ → List ℕ → ℕ
decimal a [] = a
decimal a (d ∷ ds) = decimal (a * 10 + (d - 48)) ds

-- A number below 2^32; else it is refused at its first digit.
abbrev pub check_number : List ℕ → Checked (List ℕ)
check_number bs = then (formed (read_number bs)) (λ ds c. cond (nat_lt (decimal 0 ds) too_large) (taken ds c) (refused 3 bs))

-- The words that stand for numbers of their own.
abbrev pub stand_ins : List (List ℕ)
stand_ins = codes "it" ∷ codes "me" ∷ codes "now" ∷ []

-- A word that stands for a number: a name has to be one of the kind's.
abbrev pub check_operand : List (List ℕ) → List ℕ → Checked (List ℕ)
check_operand names bs =
    then (formed (checked is_operand (read_word bs))) (λ w c. cond (among w stand_ins || among w names) (taken w c) (refused 2 bs))

-- A number, or a word that stands for one.
abbrev pub check_plain : List (List ℕ) → List ℕ → Checked Term
check_plain names [] = refused 1 []
check_plain names (b ∷ bs) =
    cond (is_letter b) (then (check_operand names (b ∷ bs)) (λ w c. taken (word w) c)) (then (check_number (b ∷ bs)) (λ ds c. taken (number ds) c))

-- Two expressions with a sign between, behind the parenthesis that opens; go reads an expression.
abbrev pub check_two : (List ℕ → Checked Term) → List ℕ → Checked Term
check_two go bs =
    then (go bs) (λ t c. then (check_literal (codes " ") c) (λ _ d. then (formed (read_sign d)) (λ s e. then (check_literal (codes " ") e) (λ _ f.
    then (go f) (λ u g. then (check_literal (codes ")") g) (λ _ h. taken (two s t u) h))))))

-- An expression, at most n deep.
unfoldable pub check_term : List (List ℕ) → ℕ → List ℕ → Checked Term
check_term names zero bs = refused 4 bs
check_term names (suc n) [] = refused 1 []
check_term names (suc n) (b ∷ bs) = cond (b == 40) (check_two (check_term names n) bs) (check_plain names (b ∷ bs))

abbrev pub check_expr : List (List ℕ) → List ℕ → Checked Term
check_expr names bs = check_term names line_bytes bs

-- An expression that ends the line.
abbrev pub check_last : List (List ℕ) → List ℕ → Checked Term
check_last names bs = then (check_expr names bs) (λ t c. then (check_literal newline c) (λ _ d. taken t d))

-- One line of a kind: the end or the else that closes lines, a line with no lines in it, or the first line of a branch or a repeat.
pub data Head : Type 0 where
  ends : Head
  elses : Head
  assigns : List ℕ → Term → Head
  draws : List ℕ → Term → Head
  says : Term → Head
  sends : Term → Term → Term → Head
  whens : Term → Head
  agains : Term → Head

-- A space and an expression that ends the line.
abbrev pub check_rest : List (List ℕ) → (Term → Head) → List ℕ → Checked Head
check_rest names f bs = then (check_literal (codes " ") bs) (λ _ c. then (check_last names c) (λ t d. taken (f t) d))

-- Behind send: what, to whom, after how long.
abbrev pub check_send : List (List ℕ) → List ℕ → Checked Head
check_send names bs =
    then (check_literal (codes " ") bs) (λ _ c. then (check_expr names c) (λ t d. then (check_literal (codes " to ") d) (λ _ e. then (check_expr names e) (λ u f.
    then (check_literal (codes " after ") f) (λ _ g. then (check_last names g) (λ v h. taken (sends t u v) h))))))

-- What is assigned, from its first byte on: a draw, or an expression that ends the line.
abbrev pub check_value : List (List ℕ) → List ℕ → List ℕ → Checked Head
check_value names w [] = refused 1 []
check_value names w (b ∷ bs) = cond (is_letter b) (then (formed (read_word (b ∷ bs))) drawn) (assigned (b ∷ bs))
  where
    assigned : List ℕ → Checked Head
    assigned c = then (check_last names c) (λ t d. taken (assigns w t) d)

    drawn : List ℕ → List ℕ → Checked Head
    drawn v d = cond (same v (codes "draw")) (check_rest names (draws w) d) (assigned (b ∷ bs))

-- A line that begins with the name w, which has to be one of the kind's; bs is the whole line, c what stands behind the name.
abbrev pub check_assign : List (List ℕ) → List ℕ → List ℕ → List ℕ → Checked Head
check_assign names bs w c =
    cond (among w names) (then (check_literal (codes " = ") c) (λ _ d. check_value names w d)) (refused 2 bs)

-- The first line of a branch or a repeat, behind its word; too deep if no more may stand in each other.
abbrev pub check_deeper : List (List ℕ) → ℕ → List ℕ → (Term → Head) → List ℕ → Checked Head
check_deeper names deep bs f c =
    then (check_literal (codes " ") c) (λ _ d. cond (deep == 0) (refused 4 bs) (then (check_last names d) (λ t e. taken (f t) e)))

-- A line by its first word w, with c behind it. els: whether an else may stand here; deep: how many more may stand in each other.
abbrev pub check_by : List (List ℕ) → ℕ → Bool → List ℕ → List ℕ → List ℕ → Checked Head
check_by names deep els bs w c =
    cond (same w (codes "end")) (then (check_literal newline c) (λ _ d. taken ends d))
    (cond (same w (codes "else")) (cond els (then (check_literal newline c) (λ _ d. taken elses d)) (refused 1 c))
    (cond (same w (codes "say")) (check_rest names says c)
    (cond (same w (codes "send")) (check_send names c)
    (cond (same w (codes "if")) (check_deeper names deep bs whens c)
    (cond (same w (codes "again")) (check_deeper names deep bs agains c)
    (cond (is_name w) (check_assign names bs w c) (refused 1 c)))))))

abbrev pub check_head : List (List ℕ) → ℕ → Bool → List ℕ → Checked Head
check_head names deep els bs = then (formed (read_word bs)) (check_by names deep els bs)

-- Where byte m of bs is one too many: a refusal further on gives way to it.
abbrev pub overrun : {A : Type 0} → ℕ → List ℕ → Checked A → Checked A
overrun m bs (taken a c) = refused 4 (drop m bs)
overrun m bs (refused n c) = cond (nat_le (length bs - length c) m) (refused n c) (refused 4 (drop m bs))

-- Whether the line at the front of bs has a byte behind its first 1,024.
abbrev pub too_long : List ℕ → Bool
too_long bs = nat_lt line_bytes (length bs) && all (λ b. not (b == 10)) (take line_bytes bs)

-- What is read of one line that begins with bs.
abbrev pub in_line : {A : Type 0} → List ℕ → Checked A → Checked A
in_line bs r = cond (too_long bs) (overrun line_bytes bs r) r

-- Lines, how they close, and how many lines may still come.
pub record Block : Type 0 where
  pub lines : Lines
  pub close : Close
  pub left : ℕ

abbrev pub before_block : (Lines → Lines) → Checked Block → Checked Block
before_block f r = then r (λ b c. taken (record { lines = f b.lines; close = b.close; left = b.left }) c)

-- Where the first byte of bs is one too many: only a refusal at that byte comes before it.
abbrev pub excess : {A B : Type 0} → List ℕ → Checked A → Checked B
excess bs (taken a c) = refused 4 bs
excess bs (refused n c) = cond (nat_le (length bs - length c) 0) (refused n c) (refused 4 bs)

-- Lines behind their first. go left deep els reads lines, of which so many may come, so deep, with an else or not.
abbrev pub check_behind : (ℕ → ℕ → Bool → List ℕ → Checked Block) → ℕ → ℕ → Bool → Head → List ℕ → Checked Block
check_behind go left deep els ends c = taken (record { lines = none; close = by_end; left = left }) c
check_behind go left deep els elses c = taken (record { lines = none; close = by_else; left = left }) c
check_behind go left deep els (assigns w t) c = before_block (assign w t) (go left deep els c)
check_behind go left deep els (draws w t) c = before_block (draw w t) (go left deep els c)
check_behind go left deep els (says t) c = before_block (say t) (go left deep els c)
check_behind go left deep els (sends t u v) c = before_block (send t u v) (go left deep els c)
check_behind go left deep els (agains t) c =
    then (go left (deep - 1) false c) (λ b d. before_block (again t b.lines) (go b.left deep els d))
check_behind go left deep els (whens t) c = then (go left (deep - 1) true c) (λ b d. closed b.close b.lines b.left d)
  where
    closed : Close → Lines → ℕ → List ℕ → Checked Block
    closed by_end b l d = before_block (when t b) (go l deep els d)
    closed by_else b l d = then (go l (deep - 1) false d) (λ e f. before_block (choose t b e.lines) (go e.left deep els f))

-- Lines up to the end that closes them, or the else, if that may be; left of them at most, and n, which is more.
unfoldable pub check_lines : List (List ℕ) → ℕ → ℕ → ℕ → Bool → List ℕ → Checked Block
check_lines names zero left deep els bs = refused 4 bs
check_lines names (suc n) left deep els bs =
    cond (left == 0) (excess bs (check_head names deep els bs))
    (then (in_line bs (check_head names deep els bs)) (λ h c. check_behind (check_lines names n) (left - 1) deep els h c))

-- A name that isn't there yet.
abbrev pub check_new : List (List ℕ) → List ℕ → Checked (List ℕ)
check_new seen bs = then (formed (read_name bs)) (λ w c. cond (among w seen) (refused 2 bs) (taken w c))

-- New names, each after a space, up to the end of the line; behind n of them only the end of the line.
unfoldable pub check_names : List (List ℕ) → ℕ → List ℕ → Checked (List (List ℕ))
check_names seen zero bs = then (check_literal newline bs) (λ _ c. taken [] c)
check_names seen (suc n) [] = refused 1 []
check_names seen (suc n) (b ∷ bs) =
    cond (b == 10) (taken [] bs)
    (cond (b == 32) (then (check_new seen bs) (λ w c. then (check_names (seen ++ w ∷ []) n c) (λ ws d. taken (w ∷ ws) d))) (refused 1 (b ∷ bs)))

-- A kind that was read: its name, and how many numbers it has.
pub record Known : Type 0 where
  pub name : List ℕ
  pub count : ℕ

abbrev pub known : Kind → Known
known k = record { name = k.name; count = length k.numbers }

-- The first line of a kind: its name, and its numbers' names.
pub record First : Type 0 where
  pub name : List ℕ
  pub numbers : List (List ℕ)

abbrev pub check_first : List Known → List ℕ → Checked First
check_first ks bs =
    then (check_literal (codes "kind ") bs) (λ _ c. then (check_new (map (λ k. k.name) ks) c) (λ w d. then (check_names [] most_names d) (λ ws e.
    taken (record { name = w; numbers = ws }) e)))

-- A kind, and how many lines may still come behind it.
pub record Counted : Type 0 where
  pub kind : Kind
  pub left : ℕ

abbrev pub check_kind : List Known → ℕ → List ℕ → Checked Counted
check_kind ks left bs =
    cond (left == 0) (refused 4 bs)
    (then (in_line bs (check_first ks bs)) (λ h c. then (check_lines h.numbers (suc most_lines) (left - 1) most_deep false c) (λ b d.
    taken (record { kind = record { name = h.name; numbers = h.numbers; lines = b.lines }; left = b.left }) d)))

-- Numbers of a thing, and the bytes from the first on that is too large.
pub record Row : Type 0 where
  pub numbers : List (List ℕ)
  pub large : Option (List ℕ)

-- Where a row breaks off: a number before that was too large comes first.
abbrev pub broken : {A : Type 0} → Option (List ℕ) → List ℕ → Checked A
broken None c = refused 1 c
broken (Some l) c = refused 3 l

-- The first of two.
abbrev pub sooner : Option (List ℕ) → Option (List ℕ) → Option (List ℕ)
sooner None m = m
sooner (Some l) m = Some l

abbrev pub large_at : List ℕ → List ℕ → Option (List ℕ)
large_at ds bs = cond (nat_lt (decimal 0 ds) too_large) None (Some bs)

-- One number of a row was read, or not; go reads those behind it, bs is where it begins.
abbrev pub check_one : (Option (List ℕ) → List ℕ → Checked Row) → Option (List ℕ) → List ℕ → Got (List ℕ) → Checked Row
check_one go large bs (got ds c) = then (go (sooner large (large_at ds bs)) c) (λ r d. taken (record { numbers = ds ∷ r.numbers; large = r.large }) d)
check_one go large bs (bad c) = broken large c

-- Numbers, each after a space, up to the end of the line; large is the first so far that was too large.
unfoldable pub check_row : ℕ → Option (List ℕ) → List ℕ → Checked Row
check_row zero large bs = refused 4 bs
check_row (suc n) large [] = broken large []
check_row (suc n) large (b ∷ bs) =
    cond (b == 10) (taken (record { numbers = []; large = large }) bs)
    (cond (b == 32) (check_one (check_row n) large bs (read_number bs)) (broken large (b ∷ bs)))

-- How many numbers the kind of that name has.
unfoldable pub count_of : List ℕ → List Known → ℕ
count_of w [] = 0
count_of w (k ∷ ks) = cond (same w k.name) k.count (count_of w ks)

-- A thing whose line, which is bs, ends well: it has as many numbers as its kind, and none is too large.
abbrev pub check_count : List Known → List ℕ → List ℕ → Row → List ℕ → Checked Thing
check_count ks bs w r c =
    cond (length r.numbers == count_of w ks) (all_small r.large) (refused 3 bs)
  where
    all_small : Option (List ℕ) → Checked Thing
    all_small None = taken (record { kind = w; numbers = r.numbers }) c
    all_small (Some l) = refused 3 l

abbrev pub check_thing : List Known → List ℕ → Checked Thing
check_thing ks bs =
    then (check_literal (codes "thing ") bs) (λ _ c. then (formed (read_name c)) (λ w d.
    cond (among w (map (λ k. k.name) ks)) (then (check_row (suc (length d)) None d) (λ r e. check_count ks bs w r e)) (refused 2 c)))

-- The number of a thing that there is.
abbrev pub check_target : ℕ → List ℕ → Checked (List ℕ)
check_target things bs = then (formed (read_number bs)) (λ ds c. cond (nat_lt (decimal 0 ds) things) (taken ds c) (refused 3 bs))

-- A message, where there are so many things.
abbrev pub check_note : ℕ → List ℕ → Checked Note
check_note things bs =
    then (check_literal (codes "message ") bs) (λ _ c. then (check_number c) (λ t d. then (check_literal (codes " ") d) (λ _ e. then (check_target things e) (λ f g.
    then (check_literal (codes " ") g) (λ _ h. then (check_number h) (λ k i. then (check_literal newline i) (λ _ j. taken (record { time = t; to = f; number = k }) j)))))))

-- Messages up to the end of the bytes; at most n.
unfoldable pub check_notes : ℕ → ℕ → List ℕ → Checked (List Note)
check_notes things n [] = taken [] []
check_notes things zero (b ∷ bs) = cond (b == 109) (refused 4 (b ∷ bs)) (refused 1 (b ∷ bs))
check_notes things (suc n) (b ∷ bs) =
    then (check_note things (b ∷ bs)) (λ x c. then (check_notes things n c) (λ xs d. taken (x ∷ xs) d))

-- Things, at most n, and the messages behind them; there are so many things before.
unfoldable pub check_things : List Known → ℕ → ℕ → List ℕ → Checked Text
check_things ks things n [] = taken (record { kinds = []; things = []; notes = [] }) []
check_things ks things zero (b ∷ bs) =
    cond (b == 116) (excess (b ∷ bs) (check_thing ks (b ∷ bs))) (then (check_notes things most_notes (b ∷ bs)) (λ ns c. taken (record { kinds = []; things = []; notes = ns }) c))
check_things ks things (suc n) (b ∷ bs) =
    cond (b == 116)
    (then (check_thing ks (b ∷ bs)) (λ x c. then (check_things ks (suc things) n c) (λ t d. taken (record { kinds = []; things = x ∷ t.things; notes = t.notes }) d)))
    (then (check_notes things most_notes (b ∷ bs)) (λ ns c. taken (record { kinds = []; things = []; notes = ns }) c))

-- Kinds, of which ks were before and left lines may come, and the things and messages behind them; n is more than left.
unfoldable pub check_kinds : ℕ → List Known → ℕ → List ℕ → Checked Text
check_kinds zero ks left bs = refused 4 bs
check_kinds (suc n) ks left [] = taken (record { kinds = []; things = []; notes = [] }) []
check_kinds (suc n) ks left (b ∷ bs) =
    cond (b == 107)
    (then (check_kind ks left (b ∷ bs)) (λ k c. then (check_kinds n (ks ++ known k.kind ∷ []) k.left c) (λ t d.
    taken (record { kinds = k.kind ∷ t.kinds; things = t.things; notes = t.notes }) d)))
    (check_things ks 0 most_things (b ∷ bs))

-- A whole text.
unfoldable pub check : List ℕ → Checked Text
check bs = cond (nat_lt text_bytes (length bs)) (overrun text_bytes bs (check_kinds (suc most_lines) [] most_lines bs)) (check_kinds (suc most_lines) [] most_lines bs)
