-- What holds of every call for C. The idea: a promise names the number and all lent places, so one outcome meets it and no other, and a refusal leaves the
-- places; a call's definition is its list of refusals and an answer (`listed`), so its number is the first of the list, and none of these is 0.
use Rattle.words.proofs.Kit.{◌≡◌, refl, sym, ap, ◌∙◌, Bool, true, false, List, [], ◌∷◌, ℕ, ◌<◌, arith, rules, get_or}
use Rattle.words.specs.Tests.{pick}
use Rattle.words.specs.Told.{RefusalTold}
use Rattle.words.specs.Word.{join}
use Rattle.words.specs.Outcome.{Outcome, refused, accepted, number_of}
use Rattle.words.specs.Refusals.{Refusals, RefusalsOf, first_given, given_in}
use Rattle.words.specs.Told.{Told}
use Rattle.words.proofs.RefusalLaws.{Numbers, Numbered, number_among}
use Rattle.words.proofs.ToldLaws.{told_first}
use Rattle.fields.specs.Layout.{context_of}
use Rattle.packet.specs.Read.{list_by, read_by, read_list}
use Rattle.packet.specs.Survey.{read_survey_of}
use Rattle.packet.specs.Told.{where_of, read_told, survey_told}
use Rattle.packet_trailer.specs.Trailer.{trailer_word_of}
use Rattle.packet_write.specs.Write.{pad_fits}
use Rattle.payload_format.specs.Count.{needed_of}
use Rattle.payload_format.specs.Signs.{signed_of}
use Rattle.payload_order.specs.Numbering.{coordinates_of, item_of}
use Rattle.payload_pack.specs.Pack.{pack_of}
use Rattle.payload_unpack.specs.Unpack.{unpack_of}
use Rattle.table.specs.Start.{start_of}
use Rattle.play.specs.Play.{play_list, play_of, play_told}
use Rattle.play.specs.Run.{run_of}
use Rattle.page.specs.Save.{length_of, save_of}
use Rattle.page.specs.PutBack.{put_back_of}
use Rattle.index.specs.Start.{start_index_of}
use Rattle.index_grow.specs.Grow.{grow_list, grow_of, grow_told}
use Rattle.index_jump.specs.Jump.{jump_of}
use Rattle.panel.specs.Readings.{reading_of}
use Rattle.panel.specs.AllReadings.{readings_of}
use Rattle.panel.specs.HeldWords.{held_words_of}
use Rattle.panel_streams.specs.Identity.{identity_of}
use Rattle.panel_streams.specs.TypeCounts.{type_counts_of}
use Rattle.panel_streams.specs.OwnTable.{own_table_of}
use Rattle.panel_streams.specs.Changed.{changed_of}
use Rattle.vrt49.specs.Answers.{Tells, places_of, number_for, in_number}
use Rattle.vrt49.specs.Packets.{write_words_by}
use Rattle.vrt49.specs.Calls.{CallForC, answers, tells, tells_where, OnceForC, SomeForC, LeavesForC, OrderForC, PartsForC, ZeroForC, EachForC, calls_for_c}
use Rattle.vrt49.proofs.NumberLaws.{Fitting, number_parts, read_fitting, survey_fitting, play_fitting, grow_fitting}

-- ---- what every promise gives

once_for_c : (c : CallForC) → OnceForC c
once_for_c (answers want) = λ h r s p q. p ∙ sym q
once_for_c (tells want values lent list numbers) = λ h r s after after' p q. (p.number ∙ sym q.number, p.places ∙ sym q.places)
once_for_c (tells_where want values lent list given) = λ h r s after after' p q. (p.number ∙ sym q.number, p.places ∙ sym q.places)

some_for_c : (c : CallForC) → SomeForC c
some_for_c (answers want) = λ h. (want h, refl)
some_for_c (tells want values lent list numbers) = λ h. (number_of (want h), places_of values (want h) (lent h), record { number = refl; places = refl })
some_for_c (tells_where want values lent list given) =
    λ h. (number_of (in_number (want h)), places_of values (in_number (want h)) (lent h), record { number = refl; places = refl })

refusal_places : {A L : Type 0} (values : A → L) (want : Outcome A) (before : L) → 0 < number_of want → places_of values want before ≡ before
refusal_places values (refused n) before h = refl
refusal_places values (accepted a) before h = absurd (omega (arith, h))

leaves_for_c : (c : CallForC) → LeavesForC c
leaves_for_c (answers want) = tt
leaves_for_c (tells want values lent list numbers) =
    λ h r after t p. t.places ∙ refusal_places values (want h) (lent h) (rw (← t.number) p)
leaves_for_c (tells_where want values lent list given) =
    λ h r after t p. t.places ∙ refusal_places values (in_number (want h)) (lent h) (rw (← t.number) p)

-- ---- the lists

-- the definition of a call is its list, and else an accepted answer; the numbers of the list are document 01's, and none is 0
abbrev not_zero : ℕ → Type 0
not_zero n = 0 < n

-- or the refusals and the places are those of the list, and each fits the number that is given
abbrev Listed : CallForC → Type 0
Listed (answers want) = Unit
Listed (tells {H} {A} {L} want values lent list numbers) =
    (h : H) → ((a : A) × (want h ≡ first_given (list h) (accepted a))) × (given_in (list h) ≡ numbers) × Numbers not_zero (list h)
Listed (tells_where {H} {A} {L} want values lent list given) =
    (h : H) → ((a : A) × (want h ≡ first_given (list h) (accepted a))) × (given_in (list h) ≡ given h)
    × ((says : RefusalTold) → want h ≡ refused says → Fitting says)

-- proofs of each thing in a list, written one after the other
infixr 4 ◌and◌
abbrev pub ◌and◌ : {A B : Type 0} → A → B → A × B
a and b = (a, b)

listed : EachForC Listed calls_for_c
unfolding read_by read_survey_of read_told survey_told play_told where_of write_words_by pad_fits trailer_word_of context_of unpack_of pack_of needed_of
    coordinates_of item_of signed_of start_of play_of run_of length_of save_of put_back_of start_index_of grow_of grow_told jump_of reading_of readings_of
    held_words_of identity_of type_counts_of own_table_of changed_of
listed =
    (λ h. ((_, told_first (where_of h.0) (read_list (get_or h.0 0 0) h.0) _), refl, read_fitting h.0))
    and (λ h. ((_, told_first (where_of h.0) (list_by true (get_or h.0 0 0) h.0) _), refl, survey_fitting h.0))
    and (λ h. ((_, refl), refl, search rules))
    and (λ h. ((_, refl), refl, search rules))
    and (λ h. ((_, refl), refl, tt))
    and (λ h. ((_, refl), refl, search rules))
    and tt
    and (λ h. ((_, refl), refl, search rules))
    and (λ h. ((_, refl), refl, tt))
    and (λ h. ((_, refl), refl, search rules))
    and (λ h. ((_, refl), refl, search rules))
    and (λ h. ((_, refl), refl, search rules))
    and (λ h. ((_, refl), refl, search rules))
    and (λ h. ((_, refl), refl, search rules))
    and (λ h. ((_, refl), refl, search rules))
    and (λ h. ((_, refl), refl, search rules))
    and tt
    and (λ h. ((_, told_first (where_of h.1) (play_list h.0 h.1) _), refl, play_fitting h.0 h.1))
    and (λ h. ((_, refl), refl, search rules))
    and (λ h. ((_, refl), refl, search rules))
    and (λ h. ((_, refl), refl, search rules))
    and (λ h. ((_, refl), refl, search rules))
    and (λ h. ((_, refl), refl, search rules))
    and (λ h. ((_, told_first (where_of h.1) (grow_list h.0 h.1 h.2) _), refl, grow_fitting h.0 h.1 h.2))
    and (λ h. ((_, refl), refl, search rules))
    and (λ h. ((_, refl), refl, search rules))
    and (λ h. ((_, refl), refl, search rules))
    and (λ h. ((_, refl), refl, search rules))
    and (λ h. ((_, refl), refl, search rules))
    and (λ h. ((_, refl), refl, search rules))
    and (λ h. ((_, refl), refl, search rules))
    and (λ h. ((_, refl), refl, search rules))
    and tt

-- the number of a list does not depend on the answer behind it
first_number : {A : Type 0} (list : Refusals) (a : A) → number_of (first_given list (accepted a)) ≡ number_of (first_given {A = Unit} list (accepted tt))
first_number [] a = refl
first_number (r ∷ rest) a = pick_number r.1 r.0 _ _ (first_number rest a)
  where
    pick_number : {A B : Type 0} (t : Bool) (n : ℕ) (o : Outcome A) (p : Outcome B) → number_of o ≡ number_of p
        → number_of (pick t (refused n) o) ≡ number_of (pick t (refused n) p)
    pick_number true n o p e = refl
    pick_number false n o p e = e

first_told : {A : Type 0} (list : RefusalsOf RefusalTold) (a : A)
    → number_of (in_number (first_given list (accepted a))) ≡ number_of (in_number (first_given {A = Unit} list (accepted tt)))
first_told [] a = refl
first_told (r ∷ rest) a = pick_told r.1 r.0 _ _ (first_told rest a)
  where
    pick_told : {A B : Type 0} (t : Bool) (n : RefusalTold) (o : Told A) (p : Told B) → number_of (in_number o) ≡ number_of (in_number p)
        → number_of (in_number (pick t (refused n) o)) ≡ number_of (in_number (pick t (refused n) p))
    pick_told true n o p e = refl
    pick_told false n o p e = e

order_for_c : (c : CallForC) → Listed c → OrderForC c
order_for_c (answers want) k = tt
order_for_c (tells want values lent list numbers) k =
    λ h r after t. ((k h).1, t.number ∙ ap number_of (k h).0.1 ∙ first_number (list h) (k h).0.0)
order_for_c (tells_where want values lent list given) k =
    λ h r after t. ((k h).1, t.number ∙ ap (λ o. number_of (in_number o)) (k h).0.1 ∙ first_told (list h) (k h).0.0)

zero_told : {A L : Type 0} (values : A → L) (want : Outcome A) (before after : L) → Numbered not_zero want → Tells values want before 0 after
    → (a : A) × (want ≡ accepted a) × (after ≡ values a)
zero_told values (refused n) before after h t = absurd (omega (arith, h, t.number))
zero_told values (accepted a) before after h t = (a, refl, t.places)

-- ---- a refusal that is told where

-- its number is not 0
zero_where : {A L : Type 0} (values : A → L) (want : Told A) (before after : L) → ((says : RefusalTold) → want ≡ refused says → Fitting says)
    → Tells values (in_number want) before 0 after → (a : A) × (want ≡ accepted a) × (after ≡ values a)
unfolding number_for join
zero_where values (refused r) before after h t = absurd (omega (arith, (h r refl).some, t.number))
zero_where values (accepted a) before after h t = (a, refl, t.places)

zero_for_c : (c : CallForC) → Listed c → ZeroForC c
zero_for_c (answers want) k = tt
zero_for_c (tells want values lent list numbers) k =
    λ h after t. zero_told values (want h) (lent h) after (rw (k h).0.1 (number_among not_zero (list h) (accepted (k h).0.0) (k h).2 tt)) t
zero_for_c (tells_where want values lent list given) k = λ h after t. zero_where values (want h) (lent h) after (k h).2 t

parts_for_c : (c : CallForC) → Listed c → PartsForC c
parts_for_c (answers want) k = tt
parts_for_c (tells want values lent list numbers) k = tt
parts_for_c (tells_where want values lent list given) k =
    λ h r after says t e. rw (t.number, e) (number_parts says ((k h).2 says e))

-- ---- of every call of the list

every : (P : CallForC → Type 0) → ((c : CallForC) → P c) → (cs : List {1} CallForC) → EachForC P cs
every P f [] = tt
every P f (c ∷ cs) = (f c, every P f cs)

every_listed : (P : CallForC → Type 0) → ((c : CallForC) → Listed c → P c) → (cs : List {1} CallForC) → EachForC Listed cs → EachForC P cs
every_listed P f [] k = tt
every_listed P f (c ∷ cs) k = (f c k.0, every_listed P f cs k.1)

pub every_once : EachForC OnceForC calls_for_c
every_once = every OnceForC once_for_c calls_for_c

pub every_some : EachForC SomeForC calls_for_c
every_some = every SomeForC some_for_c calls_for_c

pub every_leaves : EachForC LeavesForC calls_for_c
every_leaves = every LeavesForC leaves_for_c calls_for_c

pub every_order : EachForC OrderForC calls_for_c
every_order = every_listed OrderForC order_for_c calls_for_c listed

pub every_zero : EachForC ZeroForC calls_for_c
every_zero = every_listed ZeroForC zero_for_c calls_for_c listed

pub every_parts : EachForC PartsForC calls_for_c
every_parts = every_listed PartsForC parts_for_c calls_for_c listed
