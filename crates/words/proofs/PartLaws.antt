-- Parts of lists. The idea: `part` and `put` stay shut, and these laws are all that anyone uses of them: what the borrow checker leaves of a lent
-- part (`seen`, `lent`, `lent_to`), what is read of a list with a part replaced, and how two replacements meet. The side conditions are always
-- that the part lies inside, and that what is put is as long as it.
use Rattle.words.proofs.Kit.{◌≡◌, refl, sym, ap, ◌∙◌, List, [], ◌∷◌, ◌++◌, ℕ, zero, suc, ◌+◌, ◌-◌, ◌≤◌, ◌<◌, arith, length, take, drop, get_or}
use Rattle.words.proofs.Kit.{set}
use native.Mathlib.Nat.{zero-add, add-zero, suc-add}
use native.Mathlib.Numerals.{add-one}
use lib.ListN.{length-append, length-drop}
use lib.Seq.{ext_get_or, length-take-le, take-nil, take_at, drop_at, drop-drop, take-length, take-take, set_split, drop-set-lt, get_or-take, get_or-drop}
use Rattle.words.specs.Part.{part, put}

-- ---- take and drop, at a place that is not the seam
drop_take : (i n : ℕ) (xs : List ℕ) → drop i (take (i + n) xs) ≡ take n (drop i xs)
drop_take zero n xs = ap (λ (k : ℕ). take k xs) (zero-add n)
drop_take (suc i) n [] = ap (drop (suc i)) (take-nil (suc i + n)) ∙ sym (take-nil n)
drop_take (suc i) n (x ∷ xs) = ap (λ (k : ℕ). drop (suc i) (take k (x ∷ xs))) (suc-add i n) ∙ drop_take i n xs

drop_append_past : (b n : ℕ) (ys zs : List ℕ) → length ys ≡ n → n ≤ b → drop b (ys ++ zs) ≡ drop (b - n) zs
drop_append_past b n ys zs l h =
    let e : b ≡ n + (b - n) = omega arith in
    ap (λ (k : ℕ). drop k (ys ++ zs)) e ∙ sym (drop-drop (b - n) n (ys ++ zs)) ∙ ap (drop (b - n)) (drop_at ys zs n l)

-- ---- what the borrow checker says of a part from word a to word e, in these terms
pub seen : (a e n : ℕ) (xs : List ℕ) → e ≡ a + n → take (e - a) (drop a xs) ≡ part a n xs
unfolding part
seen a e n xs h = let k : e - a ≡ n = omega arith in rw k

pub lent : (a e n : ℕ) (ys xs : List ℕ) → e ≡ a + n → take a xs ++ (ys ++ drop (e - a) (drop a xs)) ≡ put a n ys xs
unfolding put
lent a e n ys xs h = let k : e - a ≡ n = omega arith in rw k

-- a part is lent to a function that makes `f xs` of a list xs
pub lent_to : (a e n : ℕ) (f : List ℕ → List ℕ) (last xs : List ℕ) → e ≡ a + n → last ≡ f (take (e - a) (drop a xs))
    → take a xs ++ (last ++ drop (e - a) (drop a xs)) ≡ put a n (f (part a n xs)) xs
lent_to a e n f last xs h g = lent a e n last xs h ∙ ap (λ (z : List ℕ). put a n z xs) (g ∙ ap f (seen a e n xs h))

-- ---- a part

pub part_is : (a n : ℕ) (xs : List ℕ) → part a n xs ≡ take n (drop a xs)
unfolding part
part_is a n xs = refl

-- the n words from word a are those from word b of the first e, where these bounds agree
pub part_take : (b m e : ℕ) (xs : List ℕ) → b + m ≤ e → part b m (take e xs) ≡ part b m xs
unfolding part put
part_take b m e xs h =
    let k : e ≡ b + (e - b) = omega arith in
    let g : m ≤ e - b = omega arith in
    ap (λ (z : ℕ). part b m (take z xs)) k ∙ ap (take m) (drop_take b (e - b) xs) ∙ take-take m (e - b) (drop b xs) g

pub part_drop : (i m a : ℕ) (xs : List ℕ) → part i m (drop a xs) ≡ part (a + i) m xs
unfolding part put
part_drop i m a xs = ap (take m) (drop-drop i a xs)

pub part_length : (a n : ℕ) (xs : List ℕ) → a + n ≤ length xs → length (part a n xs) ≡ n
unfolding part put
part_length a n xs h = length-take-le n (drop a xs) (simp length-drop (omega arith))

pub part_part : (i m a n : ℕ) (xs : List ℕ) → i + m ≤ n → part i m (part a n xs) ≡ part (a + i) m xs
unfolding part put
part_part i m a n xs h = part_take i m n (drop a xs) h ∙ part_drop i m a xs

pub get_d_part : (a n i : ℕ) (xs : List ℕ) → i < n → get_or (part a n xs) i 0 ≡ get_or xs (a + i) 0
unfolding part put
get_d_part a n i xs h = get_or-take n (drop a xs) i 0 h ∙ get_or-drop a xs i 0

-- one word
pub part_word : (a : ℕ) (xs : List ℕ) → a + 1 ≤ length xs → part a 1 xs ≡ get_or xs a 0 ∷ []
part_word a xs h =
    ext_get_or 0 (part a 1 xs) (get_or xs a 0 ∷ []) (part_length a 1 xs h)
    (λ i l. let e : i ≡ 0 = omega (arith, part_length a 1 xs h) in rw e (get_d_part a 1 0 xs (omega arith) ∙ ap (λ (k : ℕ). get_or xs k 0) (add-zero a)))

-- the whole list
pub part_whole : (xs : List ℕ) → part 0 (length xs) xs ≡ xs
unfolding part
part_whole xs = take-length xs

-- a part of a sum: the front, and past it
pub part_front : (n : ℕ) (ys zs : List ℕ) → length ys ≡ n → part 0 n (ys ++ zs) ≡ ys
unfolding part
part_front n ys zs l = take_at ys zs n l

pub part_past : (n a m : ℕ) (ys zs : List ℕ) → length ys ≡ n → part (n + a) m (ys ++ zs) ≡ part a m zs
unfolding part
part_past n a m ys zs l = ap (take m) (sym (drop-drop a n (ys ++ zs)) ∙ ap (drop a) (drop_at ys zs n l))

-- a part of a sum, within the front
pub part_within : (a m : ℕ) (ys zs : List ℕ) → a + m ≤ length ys → part a m (ys ++ zs) ≡ part a m ys
part_within a m ys zs h = sym (part_take a m (length ys) (ys ++ zs) h) ∙ ap (part a m) (take_at ys zs (length ys) refl)

-- ---- a part that is replaced

-- a store is a part of one word
pub set_put : (i v : ℕ) (xs : List ℕ) → i < length xs → set xs i v ≡ put i 1 (v ∷ []) xs
unfolding part put
set_put i v xs h = set_split xs i v h ∙ ap (λ (z : List ℕ). take i xs ++ (v ∷ z)) (ap (λ (k : ℕ). drop k xs) (sym (add-one i)) ∙ sym (drop-drop 1 i xs))

-- a store outside a part
pub part_set_before : (a n i v : ℕ) (xs : List ℕ) → i < a → part a n (set xs i v) ≡ part a n xs
unfolding part
part_set_before a n i v xs h = ap (take n) (drop-set-lt a xs i v h)

module _ (a n : ℕ) (ys xs : List ℕ) (h : a + n ≤ length xs) (l : length ys ≡ n) where
  put_head : length (take a xs) ≡ a
  unfolding part put
  put_head = length-take-le a xs (omega arith)

  pub take_put : take a (put a n ys xs) ≡ take a xs
  unfolding part put
  take_put = take_at (take a xs) (ys ++ drop n (drop a xs)) a put_head

  pub drop_put : drop a (put a n ys xs) ≡ ys ++ drop n (drop a xs)
  unfolding part put
  drop_put = drop_at (take a xs) (ys ++ drop n (drop a xs)) a put_head

  pub put_length : length (put a n ys xs) ≡ length xs
  unfolding part put
  put_length = simp (length-append, length-drop, put_head, l) (omega arith)

  -- what is past it
  pub drop_put_after : (b : ℕ) → a + n ≤ b → drop b (put a n ys xs) ≡ drop b xs
  unfolding part put
  drop_put_after b g =
      let k : a + (n + (b - a - n)) ≡ b = omega arith in
      drop_append_past b a (take a xs) (ys ++ drop n (drop a xs)) put_head (omega arith)
      ∙ drop_append_past (b - a) n ys (drop n (drop a xs)) l (omega arith)
      ∙ drop-drop (b - a - n) n (drop a xs) ∙ drop-drop (n + (b - a - n)) a xs
      ∙ ap (λ (k : ℕ). drop k xs) k

  -- the part that was put
  pub part_put : part a n (put a n ys xs) ≡ ys
  unfolding part put
  part_put = ap (take n) drop_put ∙ take_at ys (drop n (drop a xs)) n l

  -- a part before it
  pub part_put_before : (b m : ℕ) → b + m ≤ a → part b m (put a n ys xs) ≡ part b m xs
  unfolding part put
  part_put_before b m g = sym (part_take b m a (put a n ys xs) g) ∙ ap (part b m) take_put ∙ part_take b m a xs g

  -- a part after it
  pub part_put_after : (b m : ℕ) → a + n ≤ b → part b m (put a n ys xs) ≡ part b m xs
  unfolding part put
  part_put_after b m g = ap (take m) (drop_put_after b g)

  -- a word before it
  pub get_d_put_before : (i : ℕ) → i < a → get_or (put a n ys xs) i 0 ≡ get_or xs i 0
  get_d_put_before i g = sym (get_or-take a (put a n ys xs) i 0 g) ∙ ap (λ (z : List ℕ). get_or z i 0) take_put ∙ get_or-take a xs i 0 g

-- a part at the seam
pub put_at : (a n : ℕ) (p q ys : List ℕ) → length p ≡ a → put a n ys (p ++ q) ≡ p ++ (ys ++ drop n q)
unfolding put
put_at a n p q ys l = rw (take_at p q a l, drop_at p q a l)
