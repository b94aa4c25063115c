-- What stands in an index after its first four words are written (`with_reached`), and after an entry is (`with_entry`). The idea: each is a part that is
-- replaced, so what is read elsewhere is as it was; and entries that are right stay so, with one more behind them (`entry_more`) and under whatever number of
-- packets has that many boundaries (`reached_good`). An index that is started is right from none; and one that is kept elsewhere stays as it was.
use Rattle.words.proofs.Kit.{◌≡◌, refl, sym, ap, ap₂, ◌∙◌, true, ⊎_elim, List, [], ◌∷◌, ℕ, zero, suc, ◌+◌, ◌*◌, ◌/◌, ◌%◌, ◌^◌, ◌≤◌, ◌<◌, arith, length}
use Rattle.words.proofs.Kit.{take, drop, get_or}
use native.Mathlib.Nat.{add-zero}
use native.Mathlib.Numerals.{add-one}
use lib.ListN.{take-append-drop}
use lib.Seq.{get_or-take, get_or-drop, length-take-le}
use Rattle.words.specs.Word.{high_first}
use Rattle.words.specs.Part.{part, put}
use Rattle.words.proofs.Cases.{le_or_lt}
use Rattle.words.proofs.PartLaws.{get_d_part, part_within, put_length, part_put, part_put_before, part_put_after, get_d_put_before, drop_put_after}
use Rattle.table.specs.Well.{well_made}
use Rattle.page.specs.Layout.{page_of, page_length}
use Rattle.page.proofs.Bounds.{page_whole}
use Rattle.index.specs.Layout.{most_entries, spacing, entry_from, index_contents, entries_in, packets_taken, place_reached, entry_place, entry_offset}
use Rattle.index.specs.Layout.{entry_length, page_in, pages_from, pages_end, place_words, boundaries_by, with_reached, with_entry}
use Rattle.index.specs.Good.{most_place, index_good, GoodIndex}
use Rattle.index.specs.Start.{start_words, started_index}
use Rattle.index.proofs.GoodLaws.{index_of, of_index}

-- ---- a word of a part that is replaced, and past it

module _ (a n : ℕ) (ys xs : List ℕ) (h : a + n ≤ length xs) (l : length ys ≡ n) where
  pub get_d_put_at : (i : ℕ) → i < n → get_or (put a n ys xs) (a + i) 0 ≡ get_or ys i 0
  get_d_put_at i g = sym (get_d_part a n i (put a n ys xs) g) ∙ ap (λ (z : List ℕ). get_or z i 0) (part_put a n ys xs h l)

  pub get_d_put_after : (i : ℕ) → a + n ≤ i → get_or (put a n ys xs) i 0 ≡ get_or xs i 0
  get_d_put_after i g =
      let front : (zs : List ℕ) → get_or (drop i zs) 0 0 ≡ get_or zs i 0 = λ zs. get_or-drop i zs 0 0 ∙ ap (λ (k : ℕ). get_or zs k 0) (add-zero i) in
      sym (front (put a n ys xs)) ∙ ap (λ (z : List ℕ). get_or z 0 0) (drop_put_after a n ys xs h l i g) ∙ front xs

-- a word place is its two words
pub place_whole : (place : ℕ) → high_first (place / 2 ^ 32) (place % 2 ^ 32) ≡ place
place_whole place = omega arith

-- ---- what is the same in two indexes

pub record SameEntry (ix last : List ℕ) (k : ℕ) : Type 0 where
  pub place : entry_place last k ≡ entry_place ix k
  pub offset : entry_offset last k ≡ entry_offset ix k
  pub size : entry_length last k ≡ entry_length ix k

module _ (ix last : List ℕ) where
  same_entry : (k : ℕ) → ((i : ℕ) → entry_from k ≤ i → i < entry_from k + 4 → get_or last i 0 ≡ get_or ix i 0) → SameEntry ix last k
  same_entry k e = record {
    place = ap₂ high_first (e (entry_from k) (omega arith) (omega arith)) (e (entry_from k + 1) (omega arith) (omega arith));
    offset = e (entry_from k + 2) (omega arith) (omega arith);
    size = e (entry_from k + 3) (omega arith) (omega arith);
  }

  same_pages : (j : ℕ) → ((k : ℕ) → k < j → SameEntry ix last k) → pages_from last j ≡ pages_from ix j
  unfolding pages_from
  same_pages zero e = refl
  same_pages (suc j) e = ap₂ ◌+◌ (same_pages j (λ k h. e k (omega arith))) (e j (omega arith)).size

  same_page : (k : ℕ) → SameEntry ix last k → part (entry_offset ix k) (entry_length ix k) last ≡ part (entry_offset ix k) (entry_length ix k) ix
      → page_in last k ≡ page_in ix k
  unfolding page_in
  same_page k e f = ap₂ (λ (o n : ℕ). part o n last) e.offset e.size ∙ f

-- ---- the first four words

module _ (n place : ℕ) (ix : List ℕ) (h : index_contents ≤ length ix) where
  abbrev front : List ℕ
  front = boundaries_by n ∷ n ∷ place_words place []

  inside : 0 + 4 ≤ length ix
  inside = omega arith

  pub reached_long : length (with_reached n place ix) ≡ length ix
  unfolding with_reached
  reached_long = put_length 0 4 front ix inside refl

  at_front : (i : ℕ) → i < 4 → get_or (with_reached n place ix) (0 + i) 0 ≡ get_or front i 0
  unfolding with_reached
  at_front i g = get_d_put_at 0 4 front ix inside refl i g

  pub reached_entries : entries_in (with_reached n place ix) ≡ boundaries_by n
  reached_entries = at_front 0 (omega arith)

  pub reached_packets : packets_taken (with_reached n place ix) ≡ n
  reached_packets = at_front 1 (omega arith)

  pub reached_place_lem : place_reached (with_reached n place ix) ≡ place
  reached_place_lem = ap₂ high_first (at_front 2 (omega arith)) (at_front 3 (omega arith)) ∙ place_whole place

  -- all behind them is as it was
  pub reached_word : (i : ℕ) → 4 ≤ i → get_or (with_reached n place ix) i 0 ≡ get_or ix i 0
  unfolding with_reached
  reached_word i g = get_d_put_after 0 4 front ix inside refl i g

  pub reached_entry : (j : ℕ) → SameEntry ix (with_reached n place ix) j
  reached_entry j = same_entry ix (with_reached n place ix) j (λ i g _. reached_word i (omega arith))

  pub reached_pages : (j : ℕ) → pages_from (with_reached n place ix) j ≡ pages_from ix j
  reached_pages j = same_pages ix (with_reached n place ix) j (λ k _. reached_entry k)

  pub reached_page : (j : ℕ) → 4 ≤ entry_offset ix j → page_in (with_reached n place ix) j ≡ page_in ix j
  unfolding with_reached
  reached_page j g =
      same_page ix (with_reached n place ix) j (reached_entry j) (part_put_after 0 4 front ix inside refl (entry_offset ix j) (entry_length ix j) g)

-- ---- an entry with its page

module _ (j place offset : ℕ) (t ix : List ℕ) (w : well_made t ≡ true) (b : j < most_entries) (o : index_contents ≤ offset)
    (h : offset + page_length t ≤ length ix) where
  abbrev words : List ℕ
  words = place_words place (offset ∷ page_length t ∷ [])

  -- the index with the page alone
  abbrev paged : List ℕ
  paged = put offset (page_length t) (page_of t) ix

  paged_long : length paged ≡ length ix
  paged_long = put_length offset (page_length t) (page_of t) ix h (page_whole t w)

  entered : entry_from j + 4 ≤ length paged
  entered = omega (arith, paged_long)

  pub entry_long : length (with_entry j place offset t ix) ≡ length ix
  unfolding with_entry
  entry_long = put_length (entry_from j) 4 words paged entered refl ∙ paged_long

  -- the words before the entry, and those between it and the page, are as they were
  before_entry : (i : ℕ) → i < entry_from j → get_or (with_entry j place offset t ix) i 0 ≡ get_or ix i 0
  unfolding with_entry
  before_entry i g =
      get_d_put_before (entry_from j) 4 words paged entered refl i g ∙ get_d_put_before offset (page_length t) (page_of t) ix h (page_whole t w) i (omega arith)

  behind_entry : (i : ℕ) → entry_from j + 4 ≤ i → i < offset → get_or (with_entry j place offset t ix) i 0 ≡ get_or ix i 0
  unfolding with_entry
  behind_entry i g k =
      get_d_put_after (entry_from j) 4 words paged entered refl i g ∙ get_d_put_before offset (page_length t) (page_of t) ix h (page_whole t w) i k

  -- the first four words: the entries and the packets taken in are the first two
  pub entry_word : (i : ℕ) → i < 4 → get_or (with_entry j place offset t ix) i 0 ≡ get_or ix i 0
  entry_word i g = before_entry i (omega arith)

  at_entry : (i : ℕ) → i < 4 → get_or (with_entry j place offset t ix) (entry_from j + i) 0 ≡ get_or words i 0
  unfolding with_entry
  at_entry i g = get_d_put_at (entry_from j) 4 words paged entered refl i g

  pub entry_place_lem : entry_place (with_entry j place offset t ix) j ≡ place
  entry_place_lem = ap₂ high_first (rw (add-zero (entry_from j)) at (at_entry 0 (omega arith))) (at_entry 1 (omega arith)) ∙ place_whole place

  pub entry_offset_lem : entry_offset (with_entry j place offset t ix) j ≡ offset
  entry_offset_lem = at_entry 2 (omega arith)

  pub entry_size : entry_length (with_entry j place offset t ix) j ≡ page_length t
  entry_size = at_entry 3 (omega arith)

  pub entry_page : page_in (with_entry j place offset t ix) j ≡ page_of t
  unfolding page_in with_entry
  entry_page =
      ap₂ (λ (a n : ℕ). part a n (with_entry j place offset t ix)) entry_offset_lem entry_size
      ∙ part_put_after (entry_from j) 4 words paged entered refl offset (page_length t) (omega arith)
      ∙ part_put offset (page_length t) (page_of t) ix h (page_whole t w)

  -- the other entries
  pub entry_other : (k : ℕ) → (k ≡ j → ⊥) → k < most_entries → SameEntry ix (with_entry j place offset t ix) k
  entry_other k n c =
      same_entry ix (with_entry j place offset t ix) k
      (λ i g l. ⊎_elim (λ (d : k ≤ j). before_entry i (omega arith)) (λ (d : j < k). behind_entry i (omega arith) (omega arith)) (le_or_lt k j))

  pub pages_before : (k : ℕ) → k ≤ j → pages_from (with_entry j place offset t ix) k ≡ pages_from ix k
  pages_before k c = same_pages ix (with_entry j place offset t ix) k (λ i g. entry_other i (λ e. omega arith) (omega arith))

  -- a page before it
  pub page_other : (k : ℕ) → (k ≡ j → ⊥) → k < most_entries → index_contents ≤ entry_offset ix k → entry_offset ix k + entry_length ix k ≤ offset
      → page_in (with_entry j place offset t ix) k ≡ page_in ix k
  unfolding with_entry
  page_other k n c f g =
      same_page ix (with_entry j place offset t ix) k (entry_other k n c)
      (part_put_after (entry_from j) 4 words paged entered refl (entry_offset ix k) (entry_length ix k) (omega arith)
      ∙ part_put_before offset (page_length t) (page_of t) ix h (page_whole t w) (entry_offset ix k) (entry_length ix k) g)

-- ---- where pages stand

pub pages_rise : (ix : List ℕ) (j k : ℕ) → j ≤ k → pages_from ix j ≤ pages_from ix k
unfolding pages_from
pages_rise ix j zero h = let e : j ≡ 0 = omega arith in rw e (omega arith)
pages_rise ix j (suc k) h =
    ⊎_elim (λ (g : j ≤ k). omega (arith, pages_rise ix j k g)) (λ (g : k < j). let e : j ≡ suc k = omega arith in rw e (omega arith)) (le_or_lt j k)

-- behind the contents
pub pages_behind : (ix : List ℕ) (j : ℕ) → index_contents ≤ pages_from ix j
unfolding pages_from
pages_behind ix j = pages_rise ix 0 j (omega arith)

-- page k of an index that is well made: behind the contents, and before the pages' end
pub page_stands : (ix : List ℕ) → GoodIndex ix → (k : ℕ) → k < entries_in ix
    → (index_contents ≤ entry_offset ix k) × (entry_offset ix k + entry_length ix k ≤ pages_end ix)
unfolding pages_from
page_stands ix g k h =
    let here : entry_offset ix k ≡ pages_from ix k = g.gapless k h in
    let next : pages_from ix (suc k) ≤ pages_end ix = pages_rise ix (suc k) (entries_in ix) h in
    (omega (arith, here, pages_behind ix k), omega (arith, here, next))

-- ---- entries that are right, n of them

pub record Entries (ix : List ℕ) (n : ℕ) : Type 0 where
  pub places : (j : ℕ) → j < n → entry_place ix j ≤ most_place (spacing * j)
  pub gapless : (j : ℕ) → j < n → entry_offset ix j ≡ pages_from ix j
  pub inside : pages_from ix n ≤ length ix

no_entries : (ix : List ℕ) → index_contents ≤ length ix → Entries ix 0
unfolding pages_from
no_entries ix h = record { places = λ j g. absurd (omega arith); gapless = λ j g. absurd (omega arith); inside = h }

-- one more behind them
pub entry_more : (j place : ℕ) (t ix : List ℕ) → well_made t ≡ true → j < most_entries → pages_from ix j + page_length t ≤ length ix
    → place ≤ most_place (spacing * j) → Entries ix j → Entries (with_entry j place (pages_from ix j) t ix) (j + 1)
unfolding pages_from
entry_more j place t ix w b h p e =
    let offset : ℕ = pages_from ix j in
    let o : index_contents ≤ offset = pages_behind ix j in
    let last : List ℕ = with_entry j place offset t ix in
    let other : (k : ℕ) → k < j → SameEntry ix last k = λ k g. entry_other j place offset t ix w b o h k (λ i. omega arith) (omega arith) in
    let pages : (k : ℕ) → k ≤ j → pages_from last k ≡ pages_from ix k = pages_before j place offset t ix w b o h in
    record {
      places = λ k g. ⊎_elim
          (λ (d : j ≤ k). let i : k ≡ j = omega arith in rw (i, entry_place_lem j place offset t ix w b o h) p)
          (λ (d : k < j). rw (other k d).place (e.places k d)) (le_or_lt j k);
      gapless = λ k g. ⊎_elim
          (λ (d : j ≤ k). let i : k ≡ j = omega arith in rw i (entry_offset_lem j place offset t ix w b o h ∙ sym (pages j (omega arith))))
          (λ (d : k < j). (other k d).offset ∙ e.gapless k d ∙ sym (pages k (omega arith))) (le_or_lt j k);
      inside = rw (add-one j) (omega (arith, h, pages j (omega arith), entry_size j place offset t ix w b o h, entry_long j place offset t ix w b o h));
    }

-- under n packets with as many boundaries
pub reached_good : (n place : ℕ) (ix : List ℕ) → index_contents ≤ length ix → boundaries_by n ≤ most_entries → place ≤ most_place n
    → Entries ix (boundaries_by n) → index_good (with_reached n place ix) ≡ true
reached_good n place ix h b p e =
    let last : List ℕ = with_reached n place ix in
    let long = reached_long n place ix h in
    let count = reached_entries n place ix h in
    let packets = reached_packets n place ix h in
    of_index last
    (record {
      whole = omega (arith, h, long);
      entries = count ∙ ap boundaries_by (sym packets);
      few = omega (arith, b, count);
      reached = omega (arith, p, reached_place_lem n place ix h, packets);
      places = λ j g. rw (reached_entry n place ix h j).place (e.places j (omega (arith, g, count)));
      gapless = λ j g.
          (reached_entry n place ix h j).offset ∙ e.gapless j (omega (arith, g, count)) ∙ sym (reached_pages n place ix h j);
      inside = omega (arith, e.inside, long, ap (pages_from last) count ∙ reached_pages n place ix h (boundaries_by n));
    })

-- ---- an index that is started: no packet, and the page of t at boundary 0

pub record Started (t last : List ℕ) : Type 0 where
  pub packets : packets_taken last ≡ 0
  pub reached : place_reached last ≡ 0
  pub place : entry_place last 0 ≡ 0
  pub page : page_in last 0 ≡ page_of t

module _ (t ix : List ℕ) (w : well_made t ≡ true) (h : start_words t ≤ length ix) where
  abbrev first : List ℕ
  first = with_entry 0 0 index_contents t ix

  whole : index_contents ≤ length first
  whole = omega (arith, h, entry_long 0 0 index_contents t ix w (omega arith) (omega arith) h)

  pub start_good : index_good (started_index t ix) ≡ true
  unfolding started_index pages_from
  start_good =
      reached_good 0 0 first whole (omega arith) (omega arith) (entry_more 0 0 t ix w (omega arith) h (omega arith) (no_entries ix (omega arith)))

  pub start_entry : Started t (started_index t ix)
  unfolding started_index
  start_entry =
      let here : entry_offset first 0 ≡ index_contents = entry_offset_lem 0 0 index_contents t ix w (omega arith) (omega arith) h in
      record {
        packets = reached_packets 0 0 first whole;
        reached = reached_place_lem 0 0 first whole;
        place = (reached_entry 0 0 first whole 0).place ∙ entry_place_lem 0 0 index_contents t ix w (omega arith) (omega arith) h;
        page = reached_page 0 0 first whole 0 (omega (arith, here)) ∙ entry_page 0 0 index_contents t ix w (omega arith) (omega arith) h;
      }

-- ---- an index that is kept elsewhere: its words up to the end of its pages, and any behind them

module _ (ix last : List ℕ) (good : index_good ix ≡ true) (room : pages_end ix ≤ length last) (same : take (pages_end ix) last ≡ take (pages_end ix) ix) where
  was : GoodIndex ix
  was = index_of ix good

  moved_word : (i : ℕ) → i < index_contents → get_or last i 0 ≡ get_or ix i 0
  moved_word i h =
      let here : i < pages_end ix = omega (arith, pages_behind ix (entries_in ix)) in
      sym (get_or-take (pages_end ix) last i 0 here) ∙ ap (λ (z : List ℕ). get_or z i 0) same ∙ get_or-take (pages_end ix) ix i 0 here

  pub moved_entries : entries_in last ≡ entries_in ix
  moved_entries = moved_word 0 (omega arith)

  pub moved_packets : packets_taken last ≡ packets_taken ix
  moved_packets = moved_word 1 (omega arith)

  pub moved_place : place_reached last ≡ place_reached ix
  moved_place = ap₂ high_first (moved_word 2 (omega arith)) (moved_word 3 (omega arith))

  pub moved_entry : (k : ℕ) → k < entries_in ix → SameEntry ix last k
  moved_entry k h = same_entry ix last k (λ i _ l. moved_word i (omega (arith, was.few)))

  moved_part : (a n : ℕ) → a + n ≤ pages_end ix → part a n last ≡ part a n ix
  moved_part a n h =
      let front : (zs : List ℕ) → pages_end ix ≤ length zs → part a n zs ≡ part a n (take (pages_end ix) zs) =
      λ zs l.
      ap (part a n) (sym (take-append-drop (pages_end ix) zs))
      ∙ part_within a n (take (pages_end ix) zs) (drop (pages_end ix) zs) (omega (arith, h, length-take-le (pages_end ix) zs l)) in
      front last room ∙ ap (part a n) same ∙ sym (front ix was.inside)

  pub moved_page : (k : ℕ) → k < entries_in ix → page_in last k ≡ page_in ix k
  moved_page k h =
      same_page ix last k (moved_entry k h) (moved_part (entry_offset ix k) (entry_length ix k) (omega (arith, (page_stands ix was k h).1)))

  moved_pages : (j : ℕ) → j ≤ entries_in ix → pages_from last j ≡ pages_from ix j
  moved_pages j h = same_pages ix last j (λ k i. moved_entry k (omega arith))

  pub moved_good : index_good last ≡ true
  moved_good =
      let count : (j : ℕ) → j < entries_in last → j < entries_in ix = λ j h. omega (arith, h, moved_entries) in
      of_index last
      (record {
        whole = omega (arith, pages_behind ix (entries_in ix), room);
        entries = moved_entries ∙ was.entries ∙ ap boundaries_by (sym moved_packets);
        few = omega (arith, was.few, moved_entries);
        reached = omega (arith, was.reached, moved_place, moved_packets);
        places = λ j h. rw (moved_entry j (count j h)).place (was.places j (count j h));
        gapless = λ j h. let i = count j h in (moved_entry j i).offset ∙ was.gapless j i ∙ sym (moved_pages j (omega (arith, i)));
        inside = omega (arith, room, ap (pages_from last) moved_entries ∙ moved_pages (entries_in ix) (omega arith));
      })
