-- Two tables with one layout, words past it aside. The idea: each is the layout and then the words past it, and play and pages look at the layout alone
-- (`play_alone`, `page_alone`).
use Rattle.words.proofs.Kit.{◌≡◌, sym, ap, ◌∙◌, true, List, ◌++◌, ℕ, arith, length, take, drop, get_or}
use lib.ListN.{take-append-drop}
use lib.Seq.{get_or-take, length-take-le, take_at}
use Rattle.words.specs.Outcome.{said_of, left_of}
use Rattle.table.specs.Layout.{streams_of, layout_words}
use Rattle.table.specs.Well.{well_made}
use Rattle.table.proofs.WellLaws.{well_whole}
use Rattle.play.specs.Play.{play_told}
use Rattle.play.proofs.KeepLaws.{play_keeps}
use Rattle.play.proofs.AloneLaws.{play_alone}
use Rattle.page.specs.Layout.{page_of}
use Rattle.page.proofs.AloneLaws.{page_alone}

module _ (t u : List ℕ) (w : well_made t ≡ true) (v : well_made u ≡ true) (e : take (layout_words (streams_of t)) u ≡ take (layout_words (streams_of t)) t)
  where
    abbrev words : ℕ
    words = layout_words (streams_of t)

    abbrev l : List ℕ
    l = take (layout_words (streams_of t)) t

    layout_first : streams_of t ≡ streams_of l
    layout_first = sym (get_or-take words t 0 0 (omega arith))

    layout_long : length l ≡ words
    layout_long = length-take-le words t (well_whole t w)

    layout_is : length l ≡ layout_words (streams_of l)
    layout_is = layout_long ∙ ap layout_words layout_first

    pub same_streams : streams_of u ≡ streams_of t
    same_streams = sym (get_or-take words u 0 0 (omega arith)) ∙ ap (λ (z : List ℕ). get_or z 0 0) e ∙ sym layout_first

    -- the layout, and the words past it
    t_is : l ++ drop words t ≡ t
    t_is = take-append-drop words t

    u_is : l ++ drop words u ≡ u
    u_is = ap (λ (z : List ℕ). z ++ drop words u) (sym e) ∙ take-append-drop words u

    pub same_said : (ws : List ℕ) → said_of (play_told u ws) ≡ said_of (play_told t ws)
    same_said ws = rw (u_is, t_is) at ((play_alone l (drop words u) layout_is ws).0 ∙ sym (play_alone l (drop words t) layout_is ws).0)

    played_long : (ws : List ℕ) → length (left_of (play_told l ws) l) ≡ words
    played_long ws = (play_keeps l ws).whole ∙ layout_long

    pub same_left : (ws : List ℕ) → take (layout_words (streams_of t)) (left_of (play_told u ws) u)
        ≡ take (layout_words (streams_of t)) (left_of (play_told t ws) t)
    same_left ws =
        let front : (x : List ℕ) → take words (left_of (play_told (l ++ x) ws) (l ++ x)) ≡ left_of (play_told l ws) l =
        λ x. ap (take words) (play_alone l x layout_is ws).1 ∙ take_at (left_of (play_told l ws) l) x words (played_long ws) in
        rw (u_is, t_is) at (front (drop words u) ∙ sym (front (drop words t)))

    pub same_page : page_of u ≡ page_of t
    same_page = rw (u_is, t_is) at (page_alone l (drop words u) layout_is ∙ sym (page_alone l (drop words t) layout_is))
