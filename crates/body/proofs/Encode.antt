-- The words of lines stand for those lines.
use Rattle.std.proofs.Common.{◌≡◌, ℕ, zero, suc, ◌-◌, ◌<◌, ◌≤◌, List, ◌∷◌, ◌++◌, length, drop, refl, ◌∙◌, append_assoc, sub-one, arith, length-append}
use Rattle.std.proofs.lemmas.List.{drop_at}
use Rattle.meaning.specs.Model.{Expr, fixed, var, it, me, clock, plus, minus, times, over, remains, less, same, Body, stop, assign, draw, say, send, branch, repeat}
use Rattle.body.specs.declared.ExprOp.TheVariants.{Two}
use Rattle.body.specs.declared.Binary.{Binary}
use Rattle.body.specs.declared.Binary.TheVariants.{Plus, Minus, Times, Over, Remains, Less, Same}
use Rattle.body.specs.Code.{expr_of, expr_by, expr_op, of_two, body_of, body_by, line_op}
use Rattle.body.specs.Encode.{encode_expr, encode, WordsDecode}

-- The words ws, with any behind them, stand for the expression e at any depth that is no less than their number.
abbrev Reads : List ℕ → Expr → Type 0
Reads ws e = (rest : List ℕ) (n : ℕ) → length ws ≤ n → expr_of n (ws ++ rest) ≡ record { expr = e; rest = rest }

-- The same of lines.
abbrev Decodes : List ℕ → Body → Type 0
Decodes ws b = (rest : List ℕ) (n : ℕ) → length ws ≤ n → body_of n (ws ++ rest) ≡ b

-- What the first word of an expression opens.
expr_first : (n w : ℕ) (ws : List ℕ) → 0 < n → expr_of n (w ∷ ws) ≡ expr_by (expr_op w) (expr_of (n - 1)) ws
unfolding expr_of
expr_first zero w ws h = absurd (omega arith)
expr_first (suc n) w ws h = rw sub-one refl

-- What the first word of lines opens, and line by line.
body_first : (n w : ℕ) (ws : List ℕ) → 0 < n → body_of n (w ∷ ws) ≡ body_by (line_op w) (expr_of (n - 1)) (body_of (n - 1)) ws
unfolding body_of
body_first zero w ws h = absurd (omega arith)
body_first (suc n) w ws h = rw sub-one refl

assign_first : (n k : ℕ) (ws : List ℕ) → 0 < n →
    body_of n (1 ∷ k ∷ ws) ≡ assign k (expr_of (n - 1) ws).expr (body_of (n - 1) (expr_of (n - 1) ws).rest)
assign_first n k ws h = body_first n 1 (k ∷ ws) h

draw_first : (n k : ℕ) (ws : List ℕ) → 0 < n →
    body_of n (2 ∷ k ∷ ws) ≡ draw k (expr_of (n - 1) ws).expr (body_of (n - 1) (expr_of (n - 1) ws).rest)
draw_first n k ws h = body_first n 2 (k ∷ ws) h

branch_first : (n i j : ℕ) (ws : List ℕ) → 0 < n →
    body_of n (5 ∷ i ∷ j ∷ ws)
    ≡ branch (expr_of (n - 1) ws).expr (body_of (n - 1) (expr_of (n - 1) ws).rest) (body_of (n - 1) (drop i (expr_of (n - 1) ws).rest))
    (body_of (n - 1) (drop j (drop i (expr_of (n - 1) ws).rest)))
branch_first n i j ws h = body_first n 5 (i ∷ j ∷ ws) h

repeat_first : (n i : ℕ) (ws : List ℕ) → 0 < n →
    body_of n (6 ∷ i ∷ ws)
    ≡ repeat (expr_of (n - 1) ws).expr (body_of (n - 1) (expr_of (n - 1) ws).rest) (body_of (n - 1) (drop i (expr_of (n - 1) ws).rest))
repeat_first n i ws h = body_first n 6 (i ∷ ws) h

-- An expression of two.
reads_two : (w : ℕ) (b : Binary) → expr_op w ≡ Two b → (xs ys : List ℕ) (e f : Expr) → Reads xs e → Reads ys f → Reads (w ∷ xs ++ ys) (of_two b e f)
reads_two w b o xs ys e f p q rest n h =
    let l = length-append xs ys in
    let p' = p (ys ++ rest) (n - 1) (omega arith) in
    let q' = q rest (n - 1) (omega arith) in
    expr_first n w (xs ++ ys ++ rest) (omega arith) ∙ rw (o, append_assoc, p', q') refl

-- The words of an expression stand for it.
pub reads : (e : Expr) → Reads (encode_expr e) e
unfolding encode_expr
reads (fixed a) = λ rest n h. expr_first n 0 (a ∷ rest) (omega arith)
reads (var k) = λ rest n h. expr_first n 1 (k ∷ rest) (omega arith)
reads it = λ rest n h. expr_first n 2 rest (omega arith)
reads me = λ rest n h. expr_first n 3 rest (omega arith)
reads clock = λ rest n h. expr_first n 4 rest (omega arith)
reads (plus e f) = reads_two 5 Plus refl (encode_expr e) (encode_expr f) e f (reads e) (reads f)
reads (minus e f) = reads_two 6 Minus refl (encode_expr e) (encode_expr f) e f (reads e) (reads f)
reads (times e f) = reads_two 7 Times refl (encode_expr e) (encode_expr f) e f (reads e) (reads f)
reads (over e f) = reads_two 8 Over refl (encode_expr e) (encode_expr f) e f (reads e) (reads f)
reads (remains e f) = reads_two 9 Remains refl (encode_expr e) (encode_expr f) e f (reads e) (reads f)
reads (less e f) = reads_two 10 Less refl (encode_expr e) (encode_expr f) e f (reads e) (reads f)
reads (same e f) = reads_two 11 Same refl (encode_expr e) (encode_expr f) e f (reads e) (reads f)

-- Lines by how the first opens.
decodes_assign : (k : ℕ) (xs ys : List ℕ) (e : Expr) (b : Body) → Reads xs e → Decodes ys b → Decodes (1 ∷ k ∷ xs ++ ys) (assign k e b)
decodes_assign k xs ys e b p q rest n h =
    let l = length-append xs ys in
    let p' = p (ys ++ rest) (n - 1) (omega arith) in
    let q' = q rest (n - 1) (omega arith) in
    assign_first n k (xs ++ ys ++ rest) (omega arith) ∙ rw (append_assoc, p', q') refl

decodes_draw : (k : ℕ) (xs ys : List ℕ) (e : Expr) (b : Body) → Reads xs e → Decodes ys b → Decodes (2 ∷ k ∷ xs ++ ys) (draw k e b)
decodes_draw k xs ys e b p q rest n h =
    let l = length-append xs ys in
    let p' = p (ys ++ rest) (n - 1) (omega arith) in
    let q' = q rest (n - 1) (omega arith) in
    draw_first n k (xs ++ ys ++ rest) (omega arith) ∙ rw (append_assoc, p', q') refl

decodes_say : (xs ys : List ℕ) (e : Expr) (b : Body) → Reads xs e → Decodes ys b → Decodes (3 ∷ xs ++ ys) (say e b)
decodes_say xs ys e b p q rest n h =
    let l = length-append xs ys in
    let p' = p (ys ++ rest) (n - 1) (omega arith) in
    let q' = q rest (n - 1) (omega arith) in
    body_first n 3 (xs ++ ys ++ rest) (omega arith) ∙ rw (append_assoc, p', q') refl

decodes_send : (us vs xs ys : List ℕ) (g f e : Expr) (b : Body) → Reads us g → Reads vs f → Reads xs e → Decodes ys b →
    Decodes (4 ∷ us ++ vs ++ xs ++ ys) (send g f e b)
decodes_send us vs xs ys g f e b s t p q rest n h =
    let i = length-append us vs in
    let j = length-append (us ++ vs) xs in
    let l = length-append (us ++ vs ++ xs) ys in
    let s' = s (vs ++ (xs ++ (ys ++ rest))) (n - 1) (omega arith) in
    let t' = t (xs ++ (ys ++ rest)) (n - 1) (omega arith) in
    let p' = p (ys ++ rest) (n - 1) (omega arith) in
    let q' = q rest (n - 1) (omega arith) in
    body_first n 4 (us ++ vs ++ xs ++ ys ++ rest) (omega arith) ∙ simp append_assoc (rw (s', t', p', q') refl)

decodes_branch : (xs us vs ys : List ℕ) (e : Expr) (b c d : Body) → Reads xs e → Decodes us b → Decodes vs c → Decodes ys d →
    Decodes (5 ∷ length us ∷ length vs ∷ xs ++ us ++ vs ++ ys) (branch e b c d)
decodes_branch xs us vs ys e b c d p s t q rest n h =
    let i = length-append xs us in
    let j = length-append (xs ++ us) vs in
    let l = length-append (xs ++ us ++ vs) ys in
    let p' = p (us ++ (vs ++ (ys ++ rest))) (n - 1) (omega arith) in
    let s' = s (vs ++ (ys ++ rest)) (n - 1) (omega arith) in
    let t' = t (ys ++ rest) (n - 1) (omega arith) in
    let q' = q rest (n - 1) (omega arith) in
    let u = drop_at us (vs ++ (ys ++ rest)) (length us) refl in
    let v = drop_at vs (ys ++ rest) (length vs) refl in
    branch_first n (length us) (length vs) (xs ++ us ++ vs ++ ys ++ rest) (omega arith) ∙ simp append_assoc (rw (p', u, v, s', t', q') refl)

decodes_repeat : (xs us ys : List ℕ) (e : Expr) (b d : Body) → Reads xs e → Decodes us b → Decodes ys d →
    Decodes (6 ∷ length us ∷ xs ++ us ++ ys) (repeat e b d)
decodes_repeat xs us ys e b d p s q rest n h =
    let i = length-append xs us in
    let l = length-append (xs ++ us) ys in
    let p' = p (us ++ (ys ++ rest)) (n - 1) (omega arith) in
    let s' = s (ys ++ rest) (n - 1) (omega arith) in
    let q' = q rest (n - 1) (omega arith) in
    let u = drop_at us (ys ++ rest) (length us) refl in
    repeat_first n (length us) (xs ++ us ++ ys ++ rest) (omega arith) ∙ simp append_assoc (rw (p', u, s', q') refl)

-- The words of lines stand for them.
pub decodes : WordsDecode
unfolding encode
decodes stop = λ rest n h. body_first n 0 rest (omega arith)
decodes (assign k e b) = decodes_assign k (encode_expr e) (encode b) e b (reads e) (decodes b)
decodes (draw k e b) = decodes_draw k (encode_expr e) (encode b) e b (reads e) (decodes b)
decodes (say e b) = decodes_say (encode_expr e) (encode b) e b (reads e) (decodes b)
decodes (send g f e b) =
    decodes_send (encode_expr g) (encode_expr f) (encode_expr e) (encode b) g f e b (reads g) (reads f) (reads e) (decodes b)
decodes (branch e b c d) =
    decodes_branch (encode_expr e) (encode b) (encode c) (encode d) e b c d (reads e) (decodes b) (decodes c) (decodes d)
decodes (repeat e b d) = decodes_repeat (encode_expr e) (encode b) (encode d) e b d (reads e) (decodes b) (decodes d)
