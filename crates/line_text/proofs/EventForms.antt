-- Each form of an event line: what is read is spelled so, and what is spelled so is read.
use Rattle.std.proofs.Common.{◌≡◌, ℕ, ◌/◌, ◌%◌, ◌==◌, Bool, true, false, not, List, [], ◌∷◌, ◌++◌, codes, slice_index, Option, Some, None, refl, sym, ap, subst, ◌∙◌, lit<}
use Rattle.std.specs.Prelude.{◌&&◌, min, nat_le}
use Rattle.std.specs.Fmt.{decimal}
use Rattle.std.specs.List.{list_all}
use Rattle.std.specs.Option.{option_map}
use Rattle.std.specs.Str.{bytes_eq}
use Rattle.std.proofs.lemmas.Bool.{and_parts}
use Rattle.std.proofs.lemmas.Option.{cond_some, none-some, option_and_then_some, same_Some}
use Rattle.std.proofs.lemmas.Slice.Eq.{bytes_eq-Decides}
use Rattle.hex.specs.Hex.{encode_lower, encode_with, lower_digits}
use Rattle.locus_ids.specs.Sizes.{sites_max}
use Rattle.trace_book.specs.Text.{call_words, gap}
use Rattle.schedule_lines.specs.Ranges.{are_two_sites, fits_call, fits_event, fits_leave, is_between, is_byte, is_site}
use Rattle.schedule_lines.specs.Spelling.{event_spelling, leave_word}
use Rattle.schedule_lines.specs.declared.line.Leave.{Leave}
use Rattle.schedule_lines.specs.declared.line.Leave.TheVariants as leave
use Rattle.schedule_lines.specs.declared.line.Line.{Line}
use Rattle.schedule_lines.specs.declared.line.Line.TheVariants as line
use Rattle.line_text.specs.CallReader.{call_in}
use Rattle.line_text.specs.EventReader.{arm_stop, call_line, event_in, event_of, event_with, event_word, fail_line, leave_in, passing_in, stop_with, two_sites}
use Rattle.line_text.specs.Words.{byte_in, hex_in, number_in, only_one, site_in, three_words, two_words}
use Rattle.line_text.specs.declared.event_word.EventWord.{EventWord}
use Rattle.line_text.specs.declared.event_word.EventWord.TheVariants as word
use Rattle.line_text.proofs.CallForms.{and_both, call_complete, call_sound, cond_either, map_some, range_complete, range_lacks, site_complete, site_lacks, three_complete, three_first, three_sound, to_most, two_complete, two_sound, upto_complete, upto_lacks}
use Rattle.line_text.proofs.HexWords.{hex_complete, hex_sound}
use Rattle.line_text.proofs.NumberTexts.{number_sound}
use Rattle.line_text.proofs.Splits.{split_none}

-- ---- first words

abbrev pub event_word_text : EventWord → List ℕ
event_word_text word.Call = codes "call"
event_word_text word.Deliver = codes "deliver"
event_word_text word.Lose = codes "lose"
event_word_text word.Tick = codes "tick"
event_word_text word.Down = codes "down"
event_word_text word.Up = codes "up"
event_word_text word.Part = codes "part"
event_word_text word.Merge = codes "merge"
event_word_text word.GiveUp = codes "giveup"
event_word_text word.Stop = codes "stop"
event_word_text word.Fail = codes "fail"
event_word_text word.Boot = codes "boot"
event_word_text word.Settle = codes "settle"

word_is : (x : List ℕ) (v w : EventWord) → bytes_eq x (event_word_text v) ≡ true → Some v ≡ Some w → x ≡ event_word_text w
word_is x v w h e = (bytes_eq-Decides x (event_word_text v)).0 h ∙ ap event_word_text (same_Some v w e)

event_word_sound : (x : List ℕ) (w : EventWord) → event_word x ≡ Some w → x ≡ event_word_text w
event_word_sound x w h0 =
    cond_either (bytes_eq x (codes "call")) _ _ _ h0 (λ b e. word_is x word.Call w b e) (λ b0 h1.
    cond_either (bytes_eq x (codes "deliver")) _ _ _ h1 (λ b e. word_is x word.Deliver w b e) (λ b1 h2.
    cond_either (bytes_eq x (codes "lose")) _ _ _ h2 (λ b e. word_is x word.Lose w b e) (λ b2 h3.
    cond_either (bytes_eq x (codes "tick")) _ _ _ h3 (λ b e. word_is x word.Tick w b e) (λ b3 h4.
    cond_either (bytes_eq x (codes "down")) _ _ _ h4 (λ b e. word_is x word.Down w b e) (λ b4 h5.
    cond_either (bytes_eq x (codes "up")) _ _ _ h5 (λ b e. word_is x word.Up w b e) (λ b5 h6.
    cond_either (bytes_eq x (codes "part")) _ _ _ h6 (λ b e. word_is x word.Part w b e) (λ b6 h7.
    cond_either (bytes_eq x (codes "merge")) _ _ _ h7 (λ b e. word_is x word.Merge w b e) (λ b7 h8.
    cond_either (bytes_eq x (codes "giveup")) _ _ _ h8 (λ b e. word_is x word.GiveUp w b e) (λ b8 h9.
    cond_either (bytes_eq x (codes "stop")) _ _ _ h9 (λ b e. word_is x word.Stop w b e) (λ b9 h10.
    cond_either (bytes_eq x (codes "fail")) _ _ _ h10 (λ b e. word_is x word.Fail w b e) (λ b10 h11.
    cond_either (bytes_eq x (codes "boot")) _ _ _ h11 (λ b e. word_is x word.Boot w b e) (λ b11 h12.
    cond_either (bytes_eq x (codes "settle")) _ _ _ h12 (λ b e. word_is x word.Settle w b e) (λ b12 h13.
    absurd (none-some w h13))))))))))))))

-- ---- what is read is spelled so

-- the bytes are the line, which fits
abbrev pub IsMade : ℕ → List ℕ → Line → Type 0
IsMade n bytes l = (bytes ≡ event_spelling l) × (fits_event n l ≡ true)

-- a line of one operand
made : {A : Type 0} (make : A → Line) (o : Option A) (n : ℕ) (bytes : List ℕ) (l : Line) → option_map make o ≡ Some l → ((x : A) → o ≡ Some x → IsMade n bytes (make x)) → IsMade n bytes l
made make o n bytes l h f = map_some make o l h (λ x e s. subst (IsMade n bytes) s (f x e))

call_line_sound : (n : ℕ) (rest : List ℕ) (l : Line) → call_line n rest ≡ Some l → IsMade n (codes "call " ++ rest) l
call_line_sound n rest l h =
    option_and_then_some _ (three_words rest) l h (λ p e g.
    option_and_then_some _ (site_in n p.0) l g (λ site e1 g1.
    option_and_then_some _ (number_in 1 8 p.1) l g1 (λ process e2 g2.
    made (λ call. line.Call site process call) (call_in n p.2) n (codes "call " ++ rest) l g2 (λ call e3.
    let a = number_sound 1 (min n sites_max) p.0 site e1 in
    let b = number_sound 1 8 p.1 process e2 in
    let d = call_sound n p.2 call e3 in (
      ap (λ l. codes "call " ++ l)
          (three_sound rest p e
          ∙ ap (λ l. (((l ++ gap) ++ p.1) ++ gap) ++ p.2) a.0
          ∙ ap (λ l. (((decimal site ++ gap) ++ l) ++ gap) ++ p.2) b.0
          ∙ ap (λ l. (((decimal site ++ gap) ++ decimal process) ++ gap) ++ l) d.0),
      and_both (is_site n site && is_between 1 8 process) (fits_call n call) (and_both (is_site n site) (is_between 1 8 process) a.1 b.1) d.1,
    )))))

two_sites_sound : (n : ℕ) (rest : List ℕ) (s : ℕ × ℕ) → two_sites n rest ≡ Some s → (rest ≡ (decimal s.0 ++ gap) ++ decimal s.1) × (are_two_sites n s.0 s.1 ≡ true)
two_sites_sound n rest s h =
    option_and_then_some _ (two_words rest) s h (λ p e g.
    option_and_then_some _ (site_in n p.0) s g (λ one e1 g1.
    option_and_then_some _ (site_in n p.1) s g1 (λ other e2 g2.
    let t = cond_some (not (one == other)) (one, other) s g2 in
    let a = number_sound 1 (min n sites_max) p.0 one e1 in
    let b = number_sound 1 (min n sites_max) p.1 other e2 in
    subst (λ (r : ℕ × ℕ). (rest ≡ (decimal r.0 ++ gap) ++ decimal r.1) × (are_two_sites n r.0 r.1 ≡ true)) t.1 (
      two_sound rest p e ∙ ap (λ l. (l ++ gap) ++ p.1) a.0 ∙ ap (λ l. (decimal one ++ gap) ++ l) b.0,
      and_both (is_site n one && is_site n other) (not (one == other)) (and_both (is_site n one) (is_site n other) a.1 b.1) t.0,
    ))))

only_is : (bytes : List ℕ) (b : ℕ) → only_one bytes ≡ Some b → bytes ≡ b ∷ []
only_is [] b h = absurd (none-some b h)
only_is (c ∷ []) b h = ap (λ x. x ∷ []) (same_Some c b h)
only_is (c ∷ d ∷ ds) b h = absurd (none-some b h)

byte_sound : (w : List ℕ) (b : ℕ) → byte_in w ≡ Some b → (w ≡ encode_lower (b ∷ [])) × (is_byte b ≡ true)
byte_sound w b h = option_and_then_some _ (hex_in 1 w) b h (λ bytes e g.
    let s = hex_sound 1 w bytes e in
    let one = only_is bytes b g in
    (s.0 ∙ ap encode_lower one, (and_parts (is_byte b) true (sym (ap (list_all is_byte) one) ∙ s.2)).0))

leave_sound : (w : List ℕ) (v : Leave) → leave_in w ≡ Some v → (w ≡ leave_word v) × (fits_leave v ≡ true)
leave_sound w v h =
    cond_either (bytes_eq w (codes "old")) _ _ _ h
    (λ b e. subst (λ k. (w ≡ leave_word k) × (fits_leave k ≡ true)) (same_Some leave.Old v e) ((bytes_eq-Decides w (codes "old")).0 b, refl))
    (λ b g. cond_either (bytes_eq w (codes "new")) _ _ _ g
    (λ d e. subst (λ k. (w ≡ leave_word k) × (fits_leave k ≡ true)) (same_Some leave.New v e) ((bytes_eq-Decides w (codes "new")).0 d, refl))
    (λ d k. map_some (λ byte. leave.Byte byte) (byte_in w) v k (λ byte f s. subst (λ k. (w ≡ leave_word k) × (fits_leave k ≡ true)) s (byte_sound w byte f))))

arm_stop_sound : (n : ℕ) (rest : List ℕ) (l : Line) → arm_stop n rest ≡ Some l → IsMade n (codes "stop " ++ rest) l
arm_stop_sound n rest l h =
    option_and_then_some _ (three_words rest) l h (λ p e g.
    option_and_then_some _ (site_in n p.0) l g (λ site e1 g1.
    option_and_then_some _ (passing_in p.1) l g1 (λ calls e2 g2.
    made (λ leave. line.ArmStop site calls leave) (leave_in p.2) n (codes "stop " ++ rest) l g2 (λ leave e3.
    let a = number_sound 1 (min n sites_max) p.0 site e1 in
    let b = number_sound 0 1000000 p.1 calls e2 in
    let d = leave_sound p.2 leave e3 in (
      ap (λ l. codes "stop " ++ l)
          (three_sound rest p e
          ∙ ap (λ l. (((l ++ gap) ++ p.1) ++ gap) ++ p.2) a.0
          ∙ ap (λ l. (((decimal site ++ gap) ++ l) ++ gap) ++ p.2) b.0
          ∙ ap (λ l. (((decimal site ++ gap) ++ decimal calls) ++ gap) ++ l) d.0),
      and_both (is_site n site && nat_le calls 1000000) (fits_leave leave) (and_both (is_site n site) (nat_le calls 1000000) a.1 (to_most 1000000 calls b.1)) d.1,
    )))))

stop_sound : (n : ℕ) (rest : List ℕ) (o : Option (List ℕ × List ℕ)) (l : Line) → stop_with n rest o ≡ Some l → IsMade n (codes "stop " ++ rest) l
stop_sound n rest None l h = made (λ site. line.Stop site) (site_in n rest) n (codes "stop " ++ rest) l h (λ site e.
    let a = number_sound 1 (min n sites_max) rest site e in
    (ap (λ l. codes "stop " ++ l) a.0, a.1))
stop_sound n rest (Some p) l h = arm_stop_sound n rest l h

fail_sound : (n : ℕ) (rest : List ℕ) (l : Line) → fail_line n rest ≡ Some l → IsMade n (codes "fail " ++ rest) l
fail_sound n rest l h =
    option_and_then_some _ (two_words rest) l h (λ p e g.
    option_and_then_some _ (site_in n p.0) l g (λ site e1 g1.
    made (λ calls. line.ArmFail site calls) (passing_in p.1) n (codes "fail " ++ rest) l g1 (λ calls e2.
    let a = number_sound 1 (min n sites_max) p.0 site e1 in
    let b = number_sound 0 1000000 p.1 calls e2 in (
      ap (λ l. codes "fail " ++ l) (two_sound rest p e ∙ ap (λ l. (l ++ gap) ++ p.1) a.0 ∙ ap (λ l. (decimal site ++ gap) ++ l) b.0),
      and_both (is_site n site) (nat_le calls 1000000) a.1 (to_most 1000000 calls b.1),
    ))))

tick_sound : (n : ℕ) (rest : List ℕ) (l : Line) → option_map (λ site. line.Tick site) (site_in n rest) ≡ Some l → IsMade n (codes "tick " ++ rest) l
tick_sound n rest l h = made (λ site. line.Tick site) (site_in n rest) n (codes "tick " ++ rest) l h (λ site e.
    let a = number_sound 1 (min n sites_max) rest site e in
    (ap (λ l. codes "tick " ++ l) a.0, a.1))

part_sound : (n : ℕ) (rest : List ℕ) (l : Line) → option_map (λ site. line.Part site) (site_in n rest) ≡ Some l → IsMade n (codes "part " ++ rest) l
part_sound n rest l h = made (λ site. line.Part site) (site_in n rest) n (codes "part " ++ rest) l h (λ site e.
    let a = number_sound 1 (min n sites_max) rest site e in
    (ap (λ l. codes "part " ++ l) a.0, a.1))

merge_sound : (n : ℕ) (rest : List ℕ) (l : Line) → option_map (λ site. line.Merge site) (site_in n rest) ≡ Some l → IsMade n (codes "merge " ++ rest) l
merge_sound n rest l h = made (λ site. line.Merge site) (site_in n rest) n (codes "merge " ++ rest) l h (λ site e.
    let a = number_sound 1 (min n sites_max) rest site e in
    (ap (λ l. codes "merge " ++ l) a.0, a.1))

giveup_sound : (n : ℕ) (rest : List ℕ) (l : Line) → option_map (λ site. line.GiveUp site) (site_in n rest) ≡ Some l → IsMade n (codes "giveup " ++ rest) l
giveup_sound n rest l h = made (λ site. line.GiveUp site) (site_in n rest) n (codes "giveup " ++ rest) l h (λ site e.
    let a = number_sound 1 (min n sites_max) rest site e in
    (ap (λ l. codes "giveup " ++ l) a.0, a.1))

boot_sound : (n : ℕ) (rest : List ℕ) (l : Line) → option_map (λ site. line.Boot site) (site_in n rest) ≡ Some l → IsMade n (codes "boot " ++ rest) l
boot_sound n rest l h = made (λ site. line.Boot site) (site_in n rest) n (codes "boot " ++ rest) l h (λ site e.
    let a = number_sound 1 (min n sites_max) rest site e in
    (ap (λ l. codes "boot " ++ l) a.0, a.1))

deliver_sound : (n : ℕ) (rest : List ℕ) (l : Line) → option_map (λ packet. line.Deliver packet) (number_in 1 1000000 rest) ≡ Some l → IsMade n (codes "deliver " ++ rest) l
deliver_sound n rest l h = made (λ packet. line.Deliver packet) (number_in 1 1000000 rest) n (codes "deliver " ++ rest) l h (λ packet e.
    let a = number_sound 1 1000000 rest packet e in
    (ap (λ l. codes "deliver " ++ l) a.0, a.1))

lose_sound : (n : ℕ) (rest : List ℕ) (l : Line) → option_map (λ packet. line.Lose packet) (number_in 1 1000000 rest) ≡ Some l → IsMade n (codes "lose " ++ rest) l
lose_sound n rest l h = made (λ packet. line.Lose packet) (number_in 1 1000000 rest) n (codes "lose " ++ rest) l h (λ packet e.
    let a = number_sound 1 1000000 rest packet e in
    (ap (λ l. codes "lose " ++ l) a.0, a.1))

settle_sound : (n : ℕ) (rest : List ℕ) (l : Line) → option_map (λ most. line.Settle most) (number_in 1 1000000 rest) ≡ Some l → IsMade n (codes "settle " ++ rest) l
settle_sound n rest l h = made (λ most. line.Settle most) (number_in 1 1000000 rest) n (codes "settle " ++ rest) l h (λ most e.
    let a = number_sound 1 1000000 rest most e in
    (ap (λ l. codes "settle " ++ l) a.0, a.1))

down_sound : (n : ℕ) (rest : List ℕ) (l : Line) → option_map (λ s. line.Down s.0 s.1) (two_sites n rest) ≡ Some l → IsMade n (codes "down " ++ rest) l
down_sound n rest l h = made (λ (s : ℕ × ℕ). line.Down s.0 s.1) (two_sites n rest) n (codes "down " ++ rest) l h (λ s e.
    let a = two_sites_sound n rest s e in
    (ap (λ l. codes "down " ++ l) a.0, a.1))

up_sound : (n : ℕ) (rest : List ℕ) (l : Line) → option_map (λ s. line.Up s.0 s.1) (two_sites n rest) ≡ Some l → IsMade n (codes "up " ++ rest) l
up_sound n rest l h = made (λ (s : ℕ × ℕ). line.Up s.0 s.1) (two_sites n rest) n (codes "up " ++ rest) l h (λ s e.
    let a = two_sites_sound n rest s e in
    (ap (λ l. codes "up " ++ l) a.0, a.1))

event_with_sound : (n : ℕ) (w : EventWord) (rest : List ℕ) (l : Line) → event_with n w rest ≡ Some l → IsMade n ((event_word_text w ++ gap) ++ rest) l
event_with_sound n word.Call rest l h = call_line_sound n rest l h
event_with_sound n word.Deliver rest l h = deliver_sound n rest l h
event_with_sound n word.Lose rest l h = lose_sound n rest l h
event_with_sound n word.Tick rest l h = tick_sound n rest l h
event_with_sound n word.Down rest l h = down_sound n rest l h
event_with_sound n word.Up rest l h = up_sound n rest l h
event_with_sound n word.Part rest l h = part_sound n rest l h
event_with_sound n word.Merge rest l h = merge_sound n rest l h
event_with_sound n word.GiveUp rest l h = giveup_sound n rest l h
event_with_sound n word.Stop rest l h = stop_sound n rest (two_words rest) l h
event_with_sound n word.Fail rest l h = fail_sound n rest l h
event_with_sound n word.Boot rest l h = boot_sound n rest l h
event_with_sound n word.Settle rest l h = settle_sound n rest l h

event_of_sound : (n : ℕ) (bytes : List ℕ) (o : Option (List ℕ × List ℕ)) (l : Line) → two_words bytes ≡ o → event_of n bytes o ≡ Some l → IsMade n bytes l
event_of_sound n bytes None l e h =
    let p = cond_some (bytes_eq bytes (codes "pending")) line.Pending l h in
    subst (IsMade n bytes) p.1 ((bytes_eq-Decides bytes (codes "pending")).0 p.0, refl)
event_of_sound n bytes (Some p) l e h =
    option_and_then_some _ (event_word p.0) l h (λ w f k.
    let s = event_with_sound n w p.1 l k in
    (two_sound bytes p e ∙ ap (λ l. (l ++ gap) ++ p.1) (event_word_sound p.0 w f) ∙ s.0, s.1))

pub event_sound : (n : ℕ) (bytes : List ℕ) (l : Line) → event_in n bytes ≡ Some l → IsMade n bytes l
event_sound n bytes l h = event_of_sound n bytes (two_words bytes) l refl h

-- ---- what is spelled so is read

two_and : (a b : Bool) → (a && (b && false)) ≡ false
two_and true true = refl
two_and true false = refl
two_and false b = refl

-- a word of two bytes is none of three
two_not_three : (x y a b d : ℕ) → bytes_eq (x ∷ y ∷ []) (a ∷ b ∷ d ∷ []) ≡ false
two_not_three x y a b d = two_and (x == a) (y == b)

byte_complete : (b : ℕ) → is_byte b ≡ true → byte_in (encode_lower (b ∷ [])) ≡ Some b
byte_complete b h = rw (hex_complete 1 (b ∷ []) refl (and_both (is_byte b) true h refl)) refl

two_digits : (b : ℕ) → encode_lower (b ∷ []) ≡ slice_index lower_digits (b / 16) ∷ slice_index lower_digits (b % 16) ∷ []
unfolding encode_with
two_digits b = refl

leave_complete : (v : Leave) → fits_leave v ≡ true → leave_in (leave_word v) ≡ Some v
leave_complete leave.Old h = refl
leave_complete leave.New h = refl
leave_complete (leave.Byte b) h =
    let old : bytes_eq (encode_lower (b ∷ [])) (codes "old") ≡ false = rw (two_digits b) (two_not_three (slice_index lower_digits (b / 16)) (slice_index lower_digits (b % 16)) 111 108 100) in
    let new : bytes_eq (encode_lower (b ∷ [])) (codes "new") ≡ false = rw (two_digits b) (two_not_three (slice_index lower_digits (b / 16)) (slice_index lower_digits (b % 16)) 110 101 119) in
    rw (old, new, byte_complete b h) refl

two_sites_complete : (n one other : ℕ) → are_two_sites n one other ≡ true → two_sites n ((decimal one ++ gap) ++ decimal other) ≡ Some (one, other)
two_sites_complete n one other h =
    let a = and_parts (is_site n one && is_site n other) (not (one == other)) h in
    let b = and_parts (is_site n one) (is_site n other) a.0 in
    rw (two_complete (decimal one) (decimal other) (site_lacks n one b.0), site_complete n one b.0, site_complete n other b.1, a.1) refl

arm_stop_complete : (n site calls : ℕ) (v : Leave) → is_site n site ≡ true → nat_le calls 1000000 ≡ true → fits_leave v ≡ true →
    arm_stop n ((((decimal site ++ gap) ++ decimal calls) ++ gap) ++ leave_word v) ≡ Some (line.ArmStop site calls v)
arm_stop_complete n site calls v a b d =
    rw (
      three_complete (decimal site) (decimal calls) (leave_word v) (site_lacks n site a) (upto_lacks 1000000 calls (lit< tt) b),
      site_complete n site a,
      upto_complete 1000000 calls (lit< tt) b,
      leave_complete v d,
    ) refl

pub event_complete : (n : ℕ) (l : Line) → fits_event n l ≡ true → event_in n (event_spelling l) ≡ Some l
event_complete n (line.Call site process call) h =
    let a = and_parts (is_site n site && is_between 1 8 process) (fits_call n call) h in
    let b = and_parts (is_site n site) (is_between 1 8 process) a.0 in
    rw (
      three_complete (decimal site) (decimal process) (call_words call) (site_lacks n site b.0) (range_lacks 1 8 process (lit< tt) b.1),
      site_complete n site b.0,
      range_complete 1 8 process (lit< tt) b.1,
      call_complete n call a.1,
    ) refl
event_complete n (line.Deliver packet) h = rw (range_complete 1 1000000 packet (lit< tt) h) refl
event_complete n (line.Lose packet) h = rw (range_complete 1 1000000 packet (lit< tt) h) refl
event_complete n (line.Tick site) h = rw (site_complete n site h) refl
event_complete n (line.Down one other) h = rw (two_sites_complete n one other h) refl
event_complete n (line.Up one other) h = rw (two_sites_complete n one other h) refl
event_complete n (line.Part site) h = rw (site_complete n site h) refl
event_complete n (line.Merge site) h = rw (site_complete n site h) refl
event_complete n (line.GiveUp site) h = rw (site_complete n site h) refl
event_complete n (line.Stop site) h = rw (split_none 32 (decimal site) (site_lacks n site h), site_complete n site h) refl
event_complete n (line.ArmStop site calls leave) h =
    let a = and_parts (is_site n site && nat_le calls 1000000) (fits_leave leave) h in
    let b = and_parts (is_site n site) (nat_le calls 1000000) a.0 in
    rw (three_first (decimal site) (decimal calls) (leave_word leave) (site_lacks n site b.0)) (arm_stop_complete n site calls leave b.0 b.1 a.1)
event_complete n (line.ArmFail site calls) h =
    let b = and_parts (is_site n site) (nat_le calls 1000000) h in
    rw (two_complete (decimal site) (decimal calls) (site_lacks n site b.0), site_complete n site b.0, upto_complete 1000000 calls (lit< tt) b.1) refl
event_complete n (line.Boot site) h = rw (site_complete n site h) refl
event_complete n (line.Settle most) h = rw (range_complete 1 1000000 most (lit< tt) h) refl
event_complete n line.Pending h = refl
