-- For every input some outcome meets each promise. The idea: whatever is wanted of a call, its answers can say (`Says`), since every number of a refusal and
-- every value has an answer that reads so on paper; the lent words are then those that the promise gives.
use Rattle.std.specs.Prelude.{None, Some, Ok, Err}
use Rattle.words.proofs.Kit.{◌≡◌, refl, ap, ap₂, Bool, true, false, List, [], ◌∷◌, ℕ, ◌+◌, ltb, leb, length, drop, get_or}
use mathlib.Core.List.{map}
use Rattle.words.specs.Tests.{pick}
use Rattle.words.specs.Word.{has}
use Rattle.words.specs.Outcome.{Outcome, Reply, refused, accepted, Done, said_of, left_of}
use Rattle.words.specs.declared.Where.{Where}
use Rattle.words.specs.Told.{refusal, told, told_paper}
use Rattle.fields.specs.Sizes.{words_of}
use Rattle.fields.specs.Answers.{found_paper}
use Rattle.fields.specs.Layout.{indicator_of, place_of, inside_of, found_of, context_list, context_of}
use Rattle.packet.specs.Read.{list_by, read_by, read_of}
use Rattle.packet.specs.Survey.{read_survey_of}
use Rattle.packet.specs.Told.{where_of, read_told, survey_told}
use Rattle.packet_trailer.specs.Trailer.{trailer_list, trailer_word_of}
use Rattle.payload_format.specs.Count.{needed_list, needed_of}
use Rattle.payload_format.specs.Signs.{signed_list, signed_of}
use Rattle.payload_order.specs.declared.Coordinates.{Coordinates}
use Rattle.payload_order.specs.Numbering.{coordinates_list, coordinates_of, item_list, item_of}
use Rattle.payload_pack.specs.Pack.{pack_list, pack_of}
use Rattle.payload_unpack.specs.Unpack.{Buffers, unpack_list, unpack_of}
use Rattle.play.specs.Play.{table_list, play_list, play_of, play_told}
use Rattle.play.specs.Run.{run_of}
use Rattle.index_grow.specs.Grow.{grow_list, grow_of, grow_told}
use Rattle.index_jump.specs.Jump.{jump_list, jump_of}
use Rattle.packet.specs.declared.Parts.{Parts}
use Rattle.packet_write.specs.Write.{write_list_by, write_by}
use Rattle.panel.specs.declared.FieldReading.TheVariants as dial
use Rattle.panel.specs.Readings.{Reading, frequency, level, gain, temperature, other, absent, reading_list, reading_of, shown_in}
use Rattle.panel.specs.AllReadings.{readings_of}
use Rattle.panel.specs.HeldWords.{held_words_list, held_words_of}
use Rattle.panel_streams.specs.Identity.{identity_of, declared_as}
use Rattle.panel_streams.specs.TypeCounts.{Count, started, not_started, type_counts_list, type_counts_of, count_as}
use Rattle.panel_streams.specs.OwnTable.{own_table_list, own_table_of}
use Rattle.panel_streams.specs.Changed.{changed_list, changed_of}
use Rattle.table.specs.Stream.{stream_number_list}
use Rattle.table.specs.Start.{start_list, start_of}
use Rattle.page.specs.Save.{length_list, save_list, length_of, save_of}
use Rattle.page.specs.PutBack.{put_back_list, put_back_of}
use Rattle.index.specs.Start.{start_index_list, start_index_of}
use Rattle.words.specs.Listed.{on_paper}
use Rattle.words.proofs.RefusalLaws.{Numbered, number_among}
use Rattle.demands.proofs.Named.{OfTheList, named, says_result, says_as, said_numbered}
use Rattle.demands.specs.Calls.{lends, SomeOutcome, Each, calls}
use Rattle.vrt49.proofs.CallLaws.{◌and◌}

-- some answer reads so
abbrev Says : {A B : Type 0} → (A → B) → B → Type 0
Says {A} paper b = (r : A) × (paper r ≡ b)

says_plain : {A : Type 0} (a : A) → Says (λ (x : A). x) a
says_plain a = (a, refl)

-- ---- calls that answer a result

says_reading : (b : Reading) → Says shown_in b
says_reading (frequency hertz parts) = (dial.Frequency hertz parts, refl)
says_reading (level x) = (dial.Level x, refl)
says_reading (gain x y) = (dial.Gain (record { stage1 = x; stage2 = y }), refl)
says_reading (temperature x) = (dial.Temperature x, refl)
says_reading other = (dial.Other, refl)
says_reading absent = (dial.Absent, refl)

says_readings : (bs : List Reading) → Says (map shown_in) bs
says_readings [] = ([], refl)
says_readings (b ∷ bs) =
    let a = says_reading b in
    let rest = says_readings bs in
    (a.0 ∷ rest.0, ap₂ ◌∷◌ a.1 rest.1)

-- a refusal that is told where
module _ (place : ℕ → Where) where
  says_told : {A : Type 0} (o : Outcome A) → Numbered OfTheList o → Says told_paper (told place o)
  says_told (refused n) k = (Err (record { refusal = k.0; place = place n }), ap (λ (m : ℕ). refused (refusal m (place n))) k.1)
  says_told (accepted a) k = (Ok a, refl)

  said_told : {A L : Type 0} (o : Outcome (Done A L)) → Numbered OfTheList o → Says told_paper (said_of (told place o))
  said_told (refused n) k = (Err (record { refusal = k.0; place = place n }), ap (λ (m : ℕ). refused (refusal m (place n))) k.1)
  said_told (accepted d) k = (Ok d.says, refl)

says_count : (b : Count) → Says count_as b
says_count (started seen missing last) = (Some (record { seen = seen; missing = missing; last = last }), refl)
says_count not_started = (None, refl)

-- what each answers is one of its list
module _ (t : List ℕ) (s : ℕ) where
  reading_numbers : (b : ℕ) → Numbered OfTheList (reading_of t s b)
  unfolding reading_of
  reading_numbers b = number_among OfTheList (reading_list t s b) _ (search named) tt

  readings_numbers : Numbered OfTheList (readings_of t s)
  unfolding readings_of
  readings_numbers = number_among OfTheList (stream_number_list t s) _ (search named) tt

  held_numbers : (b : ℕ) (out : List ℕ) → Numbered OfTheList (held_words_of t s b out)
  unfolding held_words_of
  held_numbers b out = number_among OfTheList (held_words_list t s b out) _ (search named) tt

  identity_numbers : Numbered OfTheList (identity_of t s)
  unfolding identity_of
  identity_numbers = number_among OfTheList (stream_number_list t s) _ (search named) tt

  counts_numbers : (kind : ℕ) → Numbered OfTheList (type_counts_of t s kind)
  unfolding type_counts_of
  counts_numbers kind = number_among OfTheList (type_counts_list t s kind) _ (search named) tt

  own_numbers : (out : List ℕ) → Numbered OfTheList (own_table_of t s out)
  unfolding own_table_of
  own_numbers out = number_among OfTheList (own_table_list t s out) _ (search named) tt

  changed_numbers : (u : List ℕ) (v : ℕ) → Numbered OfTheList (changed_of t s u v)
  unfolding changed_of
  changed_numbers u v = number_among OfTheList (changed_list t s u v) _ (search named) tt

write_numbers : (survey : Bool) (pad : ℕ) (p : Parts) (body out : List ℕ) (at : ℕ) → Numbered OfTheList (write_by survey pad p body out at)
unfolding write_by
write_numbers survey pad p body out at = number_among OfTheList (write_list_by survey pad p body (length out) at) _ (search named) tt

module _ (first second n : ℕ) where
  needed_numbers : Numbered OfTheList (needed_of first second n)
  unfolding needed_of
  needed_numbers = number_among OfTheList (needed_list first second n) _ (search named) tt

  unpack_numbers : (ws : List ℕ) (b : Buffers) → Numbered OfTheList (unpack_of first second n ws b)
  unfolding unpack_of
  unpack_numbers ws b =
      number_among OfTheList (unpack_list first second n (length ws) (length b.items) (length b.events) (length b.channels)) _ (search named) tt

  coordinates_numbers : (item : ℕ) → Numbered OfTheList (coordinates_of first second n item)
  unfolding coordinates_of
  coordinates_numbers item = number_among OfTheList (coordinates_list first second n item) _ (search named) tt

  item_numbers : (at : Coordinates) → Numbered OfTheList (item_of first second n at)
  unfolding item_of
  item_numbers at = number_among OfTheList (item_list first second n at) _ (search named) tt

pack_numbers : (first second : ℕ) (items events channels out : List ℕ) → Numbered OfTheList (pack_of first second items events channels out)
unfolding pack_of
pack_numbers first second items events channels out =
    number_among OfTheList (pack_list first second items events channels (length out)) _ (search named) tt

signed_numbers : (width item : ℕ) → Numbered OfTheList (signed_of width item)
unfolding signed_of
signed_numbers width item = number_among OfTheList (signed_list width item) _ (search named) tt

start_numbers : (ids choices t : List ℕ) → Numbered OfTheList (start_of ids choices t)
unfolding start_of
start_numbers ids choices t = number_among OfTheList (start_list ids choices t) _ (search named) tt

-- what is asked of a page
length_numbers : (t : List ℕ) → Numbered OfTheList (length_of t)
unfolding length_of
length_numbers t = number_among OfTheList (length_list t) _ (search named) tt

save_numbers : (t page : List ℕ) → Numbered OfTheList (save_of t page)
unfolding save_of
save_numbers t page = number_among OfTheList (save_list t page) _ (search named) tt

put_back_numbers : (p t : List ℕ) → Numbered OfTheList (put_back_of p t)
unfolding put_back_of
put_back_numbers p t = number_among OfTheList (put_back_list p t) _ (search named) tt

-- and of an index
start_index_numbers : (t ix : List ℕ) → Numbered OfTheList (start_index_of t ix)
unfolding start_index_of
start_index_numbers t ix = number_among OfTheList (start_index_list t ix) _ (search named) tt

jump_numbers : (ws : List ℕ) (first : ℕ) (ix : List ℕ) (n : ℕ) (t : List ℕ) → Numbered OfTheList (jump_of ws first ix n t)
unfolding jump_of
jump_numbers ws first ix n t = number_among OfTheList (jump_list ws first ix n t) _ (search named) tt

-- reading and playing, each told where
context_numbers : (body : List ℕ) → Numbered OfTheList (context_of body)
unfolding context_of
context_numbers body = number_among OfTheList (context_list body) _ (search named) tt

trailer_numbers : (enables indicators e associated : ℕ) → Numbered OfTheList (trailer_word_of enables indicators e associated)
unfolding trailer_word_of
trailer_numbers enables indicators e associated = number_among OfTheList (trailer_list enables indicators e associated) _ (search named) tt

says_read : (ws : List ℕ) → Says told_paper (read_told ws)
unfolding read_told read_by
says_read ws = says_told (where_of ws) (read_of ws) (number_among OfTheList (list_by false (get_or ws 0 0) ws) _ (search named) tt)

says_survey : (ws : List ℕ) → Says told_paper (survey_told ws)
unfolding survey_told read_survey_of
says_survey ws = says_told (where_of ws) (read_survey_of ws) (number_among OfTheList (list_by true (get_or ws 0 0) ws) _ (search named) tt)

says_played : (t ws : List ℕ) → Says told_paper (said_of (play_told t ws))
unfolding play_told play_of
says_played t ws = said_told (where_of ws) (play_of t ws) (number_among OfTheList (play_list t ws) _ (search named) tt)

run_numbers : (t ws : List ℕ) (from : ℕ) (answers : List ℕ) → Numbered OfTheList (run_of t ws from answers)
unfolding run_of
run_numbers t ws from answers = number_among OfTheList (table_list t) _ (search named) tt

says_grown : (t ws ix : List ℕ) → Says told_paper (said_of (grow_told t ws ix))
unfolding grow_told grow_of
says_grown t ws ix = said_told (where_of ws) (grow_of t ws ix) (number_among OfTheList (grow_list t ws ix) _ (search named) tt)

-- a field is found at a place, or not
says_pick : (t : Bool) (xs ys : List ℕ) → Says found_paper xs → Says found_paper ys → Says found_paper (pick t xs ys)
says_pick true xs ys a b = a
says_pick false xs ys a b = b

says_found : (b : ℕ) (body : List ℕ) → Says found_paper (found_of b body)
unfolding found_of inside_of
says_found b body =
    let at : ℕ = place_of b body in
    let n : ℕ = words_of b (drop at body) in
    let none : Says found_paper [] = (None, refl) in
    let there : Says found_paper (inside_of b at body) =
    says_pick (leb (at + n) (length body)) (at ∷ n ∷ []) [] (Some (record { at = at; words = n }), refl) none in
    says_pick (ltb 30 b) [] _ none (says_pick (ltb b 8) [] _ none (says_pick (has (indicator_of body) b) _ [] there none))

-- ---- each call

lent_says : {H R A B L : Type 0} (paper : A → Reply R B) (want : H → Reply R (Done B L)) (lent : H → L) → ((h : H) → Says paper (said_of (want h)))
    → SomeOutcome (lends paper want lent)
lent_says paper want lent says = λ h. let r = says h in (r.0, left_of (want h) (lent h), record { answer = r.1; buffer = refl })

lent_result : {H B L : Type 0} (want : H → Outcome (Done B L)) (lent : H → L) → ((h : H) → Numbered OfTheList (want h))
    → SomeOutcome (lends on_paper want lent)
lent_result want lent numbers =
    λ h.
    let r = says_result (said_of (want h)) (said_numbered (want h) (numbers h)) in
    (r.0, left_of (want h) (lent h), record { answer = r.1; buffer = refl })

pub some_outcome : Each SomeOutcome calls
unfolding calls
some_outcome =
    (λ h. says_plain _)
    and (λ h. says_result _ (context_numbers h))
    and (λ h. says_found h.0 h.1)
    and says_read
    and says_survey
    and lent_result _ _ (λ h. write_numbers false 0 h.0 h.1 h.2 h.3)
    and lent_result _ _ (λ h. write_numbers true h.1 h.0 h.2 h.3 h.4)
    and (λ h. says_plain _)
    and (λ h. says_result _ (trailer_numbers h.0 h.1 h.2 h.3))
    and (λ h. says_result _ (needed_numbers h.0 h.1 h.2))
    and lent_result _ _ (λ h. unpack_numbers h.0 h.1 h.2 h.3 h.4)
    and lent_result _ _ (λ h. pack_numbers h.0 h.1 h.2 h.3 h.4 h.5)
    and (λ h. says_result _ (coordinates_numbers h.0 h.1 h.2 h.3))
    and (λ h. says_result _ (item_numbers h.0 h.1 h.2 h.3))
    and (λ h. says_result _ (signed_numbers h.0 h.1))
    and lent_result _ _ (λ h. start_numbers h.0 h.1 h.2)
    and (λ h. says_plain _)
    and lent_says _ _ _ (λ h. says_played h.0 h.1)
    and lent_result _ _ (λ h. run_numbers h.0 h.1 h.2 h.3)
    and (λ t. says_result _ (length_numbers t))
    and lent_result _ _ (λ h. save_numbers h.0 h.1)
    and lent_result _ _ (λ h. put_back_numbers h.0 h.1)
    and lent_result _ _ (λ h. start_index_numbers h.0 h.1)
    and lent_says _ _ _ (λ h. says_grown h.0 h.1 h.2)
    and lent_result _ _ (λ h. jump_numbers h.0 h.1 h.2 h.3 h.4)
    and (λ h. says_as shown_in says_reading _ (reading_numbers h.0 h.1 h.2))
    and (λ h. says_as (map shown_in) says_readings _ (readings_numbers h.0 h.1))
    and lent_result _ _ (λ h. held_numbers h.0 h.1 h.2 h.3)
    and (λ h. says_as declared_as (λ d. (record { identifier = d.identifier; choice = d.choice; held = d.held }, refl)) _ (identity_numbers h.0 h.1))
    and (λ h. says_as count_as says_count _ (counts_numbers h.0 h.1 h.2))
    and lent_result _ _ (λ h. own_numbers h.0 h.1 h.2)
    and (λ h. says_result _ (changed_numbers h.0 h.1 h.2 h.3))
    and tt
