-- Names of a kind's numbers, a table of kinds, a kind's first line and the kind, with all their rules.
use Rattle.std.proofs.Common.{◌≡◌, ℕ, zero, suc, ◌+◌, ◌-◌, ◌<◌, ◌≤◌, Bool, true, false, cond, ◌||◌, eqb, ◌⊎◌, List, [], ◌∷◌, ◌++◌, map, length, get_or, drop, Some, None, Option, codes, sym, refl, ap, ◌∙◌, ap₂, inl, inr, append_assoc, append-nil, arith}
use Rattle.std.specs.Option.{is_some}
use Rattle.std.proofs.lemmas.List.{drop_more, drop_all}
use Rattle.std.proofs.lemmas.Bool.{eq-eqb, ne_eqb, cases_eq, cond-true, cond-false}
use Rattle.grammar.specs.Syntax.{same, among, newline, is_name}
use Rattle.grammar.specs.Parse.{Got, got, bad, Close, expect, checked, read_word, read_name}
use Rattle.grammar.specs.Check.{Checked, taken, refused, then, formed, check_new, check_names, Known, count_of, First, check_first, most_names, most_deep, in_line, Block, check_lines, Counted, check_kind}
use Rattle.words.specs.Reads.{map_got}
use Rattle.words.specs.Words.{pack, unpack}
use Rattle.words.proofs.Packs.{packed_again, unpacked, word_good}
use Rattle.checker.specs.declared.texts.Kept.{Kept}
use Rattle.checker.specs.Lines.{Shape}
use Rattle.checker.specs.Refusals.{map_checked}
use Rattle.checker.specs.Texts.{seen, known_in, counted_by}
use Rattle.checker.proofs.Terms.{same_unpacked}
use Rattle.checker.proofs.Blocks.{shaped}

-- A name that was read, by its packed word.
pub name_back : (bs : List ℕ) (p : ℕ) (r : List ℕ) → map_got pack (read_name bs) ≡ got p r → (read_name bs ≡ got (unpack p) r) × (pack (unpack p) ≡ p)
name_back bs p r e = go (read_word bs) refl e
  where
    go : (g : Got (List ℕ)) → read_word bs ≡ g → map_got pack (checked is_name g) ≡ got p r → (checked is_name g ≡ got (unpack p) r) × (pack (unpack p) ≡ p)
    go (bad c) f k = absurd (let z : ◌≡◌ {A = ℕ} 0 1 = cc in omega arith)
    go (got v c) f k = test (is_name v) k
      where
        test : (t : Bool) → map_got pack (cond t (got v c) (bad c)) ≡ got p r → (cond t (got v c) (bad c) ≡ got (unpack p) r) × (pack (unpack p) ≡ p)
        test true k =
            let q : pack v ≡ p = cc in
            let d : c ≡ r = cc in
            let u = sym (unpacked v (word_good bs v c f)) ∙ ap unpack q in
            (ap₂ got u d, ap pack (sym u) ∙ q)
        test false k = absurd (let z : ◌≡◌ {A = ℕ} 0 1 = cc in omega arith)

-- A name that isn't there yet, by what the search for it says.
module _ (seen : List (List ℕ)) (bs : List ℕ) (p : ℕ) (r : List ℕ) (e : map_got pack (read_name bs) ≡ got p r) where
  by_search : (b : Bool) → among (unpack p) seen ≡ b → check_new seen bs ≡ cond b (refused 2 bs) (taken (unpack p) r)
  by_search b h =
      ap (λ g. then (formed g) (λ w c. cond (among w seen) (refused 2 bs) (taken w c))) (name_back bs p r e).0 ∙ ap (λ t. cond t (refused 2 bs) (taken (unpack p) r)) h

  pub new_there : among (unpack p) seen ≡ true → check_new seen bs ≡ refused 2 bs
  new_there h = by_search true h

  pub new_taken : among (unpack p) seen ≡ false → check_new seen bs ≡ taken (unpack p) r
  new_taken h = by_search false h

-- Names with others before them.
abbrev pub before : List (List ℕ) → Checked (List (List ℕ)) → Checked (List (List ℕ))
before ps (taken ws c) = taken (ps ++ ws) c
before ps (refused m c) = refused m c

-- The names before are ps, which are those seen.
module _ (ps : List (List ℕ)) where
  pub names_last : (n : ℕ) (c d : List ℕ) → n ≡ 0 → expect newline c ≡ got tt d → before ps (check_names ps n c) ≡ taken ps d
  unfolding check_names
  names_last (suc n) c d z e = absurd (omega arith)
  names_last zero c d z e =
      ap (λ (g : Got (Unit {0})). before ps (then (formed g) (λ _ c. let none : List (List ℕ) = [] in taken none c))) e ∙ ap (λ ws. taken ws d) (append-nil ps)

  pub names_no_last : (n : ℕ) (c d : List ℕ) → n ≡ 0 → expect newline c ≡ bad d → before ps (check_names ps n c) ≡ refused 1 d
  unfolding check_names
  names_no_last (suc n) c d z e = absurd (omega arith)
  names_no_last zero c d z e = ap (λ (g : Got (Unit {0})). before ps (then (formed g) (λ _ c. let none : List (List ℕ) = [] in taken none c))) e

  pub names_none : (n : ℕ) (bs : List ℕ) → (n ≡ 0 → ⊥) → length bs ≡ 0 → before ps (check_names ps n bs) ≡ refused 1 bs
  unfolding check_names
  names_none zero bs s h = absurd (s refl)
  names_none (suc n) [] s h = refl
  names_none (suc n) (b ∷ bs) s h = absurd (omega arith)

  pub names_end : (n b : ℕ) (c : List ℕ) → (n ≡ 0 → ⊥) → b ≡ 10 → before ps (check_names ps n (b ∷ c)) ≡ taken ps c
  unfolding check_names
  names_end zero b c s h = absurd (s refl)
  names_end (suc n) b c s h = ap (λ g. before ps g) (cond-true (eqb b 10) _ _ (eq-eqb b 10 h)) ∙ ap (λ ws. taken ws c) (append-nil ps)

  pub names_other : (n b : ℕ) (c : List ℕ) → (n ≡ 0 → ⊥) → (b ≡ 10 → ⊥) → (b ≡ 32 → ⊥) → before ps (check_names ps n (b ∷ c)) ≡ refused 1 (b ∷ c)
  unfolding check_names
  names_other zero b c s h k = absurd (s refl)
  names_other (suc n) b c s h k = ap (λ g. before ps g) (cond-false (eqb b 10) _ _ (ne_eqb b 10 h) ∙ cond-false (eqb b 32) _ _ (ne_eqb b 32 k))

  name_next : (n b : ℕ) (c : List ℕ) → (n ≡ 0 → ⊥) → b ≡ 32 →
      check_names ps n (b ∷ c) ≡ then (check_new ps c) (λ w d. then (check_names (ps ++ w ∷ []) (n - 1) d) (λ ws e. taken (w ∷ ws) e))
  unfolding check_names
  name_next zero b c s h = absurd (s refl)
  name_next (suc n) b c s h =
      let m : n ≡ suc n - 1 = omega arith in
      cond-false (eqb b 10) _ _ (ne_eqb b 10 (λ z. omega arith)) ∙ cond-true (eqb b 32) _ _ (eq-eqb b 32 h)
      ∙ ap (λ k. then (check_new ps c) (λ w d. then (check_names (ps ++ w ∷ []) k d) (λ ws e. taken (w ∷ ws) e))) m

  pub names_refused : (n b : ℕ) (c : List ℕ) → (n ≡ 0 → ⊥) → b ≡ 32 → (m : ℕ) (d : List ℕ) → check_new ps c ≡ refused m d → before ps (check_names ps n (b ∷ c)) ≡ refused m d
  names_refused n b c s h m d x =
      ap (λ g. before ps g) (name_next n b c s h ∙ ap (λ (g : Checked (List ℕ)). then g (λ w d. then (check_names (ps ++ w ∷ []) (n - 1) d) (λ ws e. taken (w ∷ ws) e))) x)

  pub names_more : (n b : ℕ) (c : List ℕ) → (n ≡ 0 → ⊥) → b ≡ 32 → (w d : List ℕ) → check_new ps c ≡ taken w d →
      before ps (check_names ps n (b ∷ c)) ≡ before (ps ++ w ∷ []) (check_names (ps ++ w ∷ []) (n - 1) d)
  names_more n b c s h w d x =
      ap (λ g. before ps g) (name_next n b c s h ∙ ap (λ (g : Checked (List ℕ)). then g (λ w d. then (check_names (ps ++ w ∷ []) (n - 1) d) (λ ws e. taken (w ∷ ws) e))) x)
      ∙ one (check_names (ps ++ w ∷ []) (n - 1) d)
    where
      one : (g : Checked (List (List ℕ))) → before ps (then g (λ ws d. taken (w ∷ ws) d)) ≡ before (ps ++ w ∷ []) g
      one (taken ws d) = ap (λ us. taken us d) (sym (append_assoc ps (w ∷ []) ws))
      one (refused m d) = refl

eqb_comm : (a b : ℕ) → eqb a b ≡ eqb b a
eqb_comm a b = go (cases_eq a b)
  where
    go : (a ≡ b) ⊎ (a ≡ b → ⊥) → eqb a b ≡ eqb b a
    go (inl e) = eq-eqb a b e ∙ sym (eq-eqb b a (sym e))
    go (inr n) = ne_eqb a b n ∙ sym (ne_eqb b a (λ e. n (sym e)))

-- A table of kinds.
module _ (word : ℕ) (ks : List Kept) (i : ℕ) where
  pub counted_none : length ks ≤ i → counted_by (unpack word) (known_in (drop i ks)) ≡ None
  unfolding counted_by
  counted_none h = ap (λ r. counted_by (unpack word) (known_in r)) (drop_all i ks h)

  module _ (d : Kept) (h : i < length ks) (f : word < 18446744073709551616) (g : (get_or ks i d).name < 18446744073709551616) where
    counted_step : counted_by (unpack word) (known_in (drop i ks)) ≡ cond (eqb word (get_or ks i d).name) (Some (get_or ks i d).count) (counted_by (unpack word) (known_in (drop (i + 1) ks)))
    unfolding counted_by
    counted_step =
        ap (λ r. counted_by (unpack word) (known_in r)) (drop_more ks i d h)
        ∙ ap (λ b. cond b (Some (get_or ks i d).count) (counted_by (unpack word) (known_in (drop (i + 1) ks)))) (same_unpacked word (get_or ks i d).name (packed_again word f) (packed_again (get_or ks i d).name g) ∙ eqb_comm (get_or ks i d).name word)

    pub counted_here : (get_or ks i d).name ≡ word → counted_by (unpack word) (known_in (drop i ks)) ≡ Some (get_or ks i d).count
    counted_here e = counted_step ∙ cond-true (eqb word (get_or ks i d).name) _ _ (eq-eqb _ _ (sym e))

    pub counted_more : ((get_or ks i d).name ≡ word → ⊥) → counted_by (unpack word) (known_in (drop i ks)) ≡ counted_by (unpack word) (known_in (drop (i + 1) ks))
    counted_more e = counted_step ∙ cond-false (eqb word (get_or ks i d).name) _ _ (ne_eqb _ _ (λ z. e (sym z)))

-- What the search in a table of kinds means.
abbrev pub names_of : List Known → List (List ℕ)
names_of ks = map (λ k. k.name) ks

pub absent : (w : List ℕ) (ks : List Known) → None ≡ counted_by w ks → among w (names_of ks) ≡ false
unfolding counted_by among
absent w [] e = refl
absent w (k ∷ ks) e = go (same w k.name) e (absent w ks)
  where
    go : (b : Bool) → None ≡ cond b (Some k.count) (counted_by w ks) → (None ≡ counted_by w ks → among w (names_of ks) ≡ false) → (b || among w (names_of ks)) ≡ false
    go true e f = absurd (let z : ◌≡◌ {A = ℕ} 0 1 = cc in omega arith)
    go false e f = f e

pub present : (w : List ℕ) (ks : List Known) (n : ℕ) → Some n ≡ counted_by w ks → (among w (names_of ks) ≡ true) × (count_of w ks ≡ n)
unfolding counted_by among count_of
present w [] n e = absurd (let z : ◌≡◌ {A = ℕ} 0 1 = cc in omega arith)
present w (k ∷ ks) n e = go (same w k.name) e (present w ks n)
  where
    go : (b : Bool) → Some n ≡ cond b (Some k.count) (counted_by w ks) → (Some n ≡ counted_by w ks → (among w (names_of ks) ≡ true) × (count_of w ks ≡ n)) → ((b || among w (names_of ks)) ≡ true) × (cond b k.count (count_of w ks) ≡ n)
    go true e f = (refl, cc)
    go false e f = f e

-- The first line of a kind, part by part.
module _ (ks : List Known) (b₀ c₁ : List ℕ) (l₁ : expect (codes "kind ") b₀ ≡ got tt c₁) (w c₂ : List ℕ) (e₂ : read_name c₁ ≡ got w c₂) where
  abbrev headed : List ℕ → List ℕ → Checked First
  headed w d = then (check_names [] most_names d) (λ ws e. taken (record { name = w; numbers = ws }) e)

  to_name : (X : Checked (List ℕ)) → cond (among w (names_of ks)) (refused 2 c₁) (taken w c₂) ≡ X → check_first ks b₀ ≡ then X headed
  to_name X x =
      ap (λ (g : Checked (Unit {0})). then g (λ _ c. then (check_new (names_of ks) c) headed)) (ap formed l₁)
      ∙ ap (λ (g : Checked (List ℕ)). then (then g (λ w d. cond (among w (names_of ks)) (refused 2 c₁) (taken w d))) headed) (ap formed e₂)
      ∙ ap (λ (g : Checked (List ℕ)). then g headed) x

  pub first_known : among w (names_of ks) ≡ true → check_first ks b₀ ≡ refused 2 c₁
  first_known h = to_name (refused 2 c₁) (cond-true (among w (names_of ks)) _ _ h)

  module _ (h : among w (names_of ks) ≡ false) where
    to_names : check_first ks b₀ ≡ headed w c₂
    to_names = to_name (taken w c₂) (cond-false (among w (names_of ks)) _ _ h)

    pub first_refused : (m : ℕ) (c : List ℕ) → check_names [] most_names c₂ ≡ refused m c → check_first ks b₀ ≡ refused m c
    first_refused m c x = to_names ∙ ap (λ (g : Checked (List (List ℕ))). then g (λ ws e. taken (record { name = w; numbers = ws }) e)) x

    pub first_whole : (us : List (List ℕ)) (c : List ℕ) → check_names [] most_names c₂ ≡ taken us c → check_first ks b₀ ≡ taken (record { name = w; numbers = us }) c
    first_whole us c x = to_names ∙ ap (λ (g : Checked (List (List ℕ))). then g (λ ws e. taken (record { name = w; numbers = ws }) e)) x

-- A kind whose first line and lines were read.
pub kind_whole : (ks : List Known) (left : ℕ) (b₀ : List ℕ) (h : First) (c₁ : List ℕ) (k : Close) (l : ℕ) (c₂ : List ℕ) → (left ≡ 0 → ⊥) → in_line b₀ (check_first ks b₀) ≡ taken h c₁ →
    shaped (check_lines h.numbers 4097 (left - 1) most_deep false c₁) ≡ taken (record { close = k; left = l }) c₂ →
    map_checked seen (check_kind ks left b₀) ≡ taken (record { kind = record { name = h.name; count = length h.numbers }; left = l }) c₂
kind_whole ks left b₀ h c₁ k l c₂ z e x =
    ap (λ (g : Checked Counted). map_checked seen g)
    (cond-false (eqb left 0) _ _ (ne_eqb _ _ z)
    ∙ ap (λ (g : Checked First). then g (λ h c. then (check_lines h.numbers 4097 (left - 1) most_deep false c) (λ b d. taken (record { kind = record { name = h.name; numbers = h.numbers; lines = b.lines }; left = b.left }) d))) e)
    ∙ one (check_lines h.numbers 4097 (left - 1) most_deep false c₁) x
  where
    one : (g : Checked Block) → shaped g ≡ taken (record { close = k; left = l }) c₂ →
        map_checked seen (then g (λ b d. taken (record { kind = record { name = h.name; numbers = h.numbers; lines = b.lines }; left = b.left }) d))
        ≡ taken (record { kind = record { name = h.name; count = length h.numbers }; left = l }) c₂
    one (taken b d) x =
        let p : ◌≡◌ {A = Shape} (record { close = b.close; left = b.left }) (record { close = k; left = l }) = cc in
        let f : d ≡ c₂ = cc in
        ap₂ (λ m r. taken (record { kind = record { name = h.name; count = length h.numbers }; left = m }) r) (ap (λ (s : Shape). s.left) p) f
    one (refused m d) x = absurd (let z : ◌≡◌ {A = ℕ} 0 1 = cc in omega arith)

pub kind_refused : (ks : List Known) (left : ℕ) (bs : List ℕ) (m : ℕ) (c : List ℕ) → (left ≡ 0 → ⊥) → in_line bs (check_first ks bs) ≡ refused m c → map_checked seen (check_kind ks left bs) ≡ refused m c
kind_refused ks left bs m c z e =
    ap (λ (g : Checked Counted). map_checked seen g)
    (cond-false (eqb left 0) _ _ (ne_eqb _ _ z)
    ∙ ap (λ (g : Checked First). then g (λ h c. then (check_lines h.numbers 4097 (left - 1) most_deep false c) (λ b d. taken (record { kind = record { name = h.name; numbers = h.numbers; lines = b.lines }; left = b.left }) d))) e)

pub kind_broken : (ks : List Known) (left : ℕ) (bs : List ℕ) (h : First) (c : List ℕ) (m : ℕ) (d : List ℕ) → (left ≡ 0 → ⊥) → in_line bs (check_first ks bs) ≡ taken h c →
    shaped (check_lines h.numbers 4097 (left - 1) most_deep false c) ≡ refused m d → map_checked seen (check_kind ks left bs) ≡ refused m d
kind_broken ks left bs h c m d z e x =
    ap (λ (g : Checked Counted). map_checked seen g)
    (cond-false (eqb left 0) _ _ (ne_eqb _ _ z)
    ∙ ap (λ (g : Checked First). then g (λ h c. then (check_lines h.numbers 4097 (left - 1) most_deep false c) (λ b d. taken (record { kind = record { name = h.name; numbers = h.numbers; lines = b.lines }; left = b.left }) d))) e)
    ∙ one (check_lines h.numbers 4097 (left - 1) most_deep false c) x
  where
    one : (g : Checked Block) → shaped g ≡ refused m d → map_checked seen (then g (λ b d. taken (record { kind = record { name = h.name; numbers = h.numbers; lines = b.lines }; left = b.left }) d)) ≡ refused m d
    one (taken b c) x = absurd (let z : ◌≡◌ {A = ℕ} 0 1 = cc in omega arith)
    one (refused n c) x = let h : n ≡ m = cc in let k : c ≡ d = cc in ap₂ refused h k

-- Whether the search found a kind.
pub is_there : (o : Option ℕ) → true ≡ is_some o → (n : ℕ) × (Some n ≡ o)
is_there (Some n) h = (n, refl)
is_there None h = absurd (let z : ◌≡◌ {A = Bool} true false = h in cc)

pub is_absent : (o : Option ℕ) → false ≡ is_some o → None ≡ o
is_absent (Some n) h = absurd (let z : ◌≡◌ {A = Bool} false true = h in cc)
is_absent None h = refl
