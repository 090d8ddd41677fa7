-- How replies are read: an ok by the words behind it.
use Rattle.std.proofs.Common.{◌≡◌, ℕ, ◌+◌, ◌*◌, ◌<◌, ◌≤◌, ◌==◌, Bool, true, false, codes, List, [], ◌∷◌, ◌++◌, length, length-append, Option, Some, None, refl, sym, ap, subst, ◌∙◌, append_assoc, arith, ⊎_elim}
use Rattle.std.specs.Prelude.{◌&&◌, not, nat_le}
use Rattle.std.specs.Fmt.{decimal}
use Rattle.std.specs.List.{join_by, list_all}
use Rattle.std.specs.Str.{bytes_eq}
use Rattle.std.proofs.lemmas.Bool.{and_parts, cases_lt, eqb-true, false≢true, le-leb, leb-true, lt-ltb}
use Rattle.std.proofs.lemmas.Fmt.{decimal_nonempty, length-decimal-le}
use Rattle.std.proofs.lemmas.List.{append-nil}
use Rattle.std.proofs.lemmas.Option.{same_Some}
use Rattle.hex.proofs.HexLemmas.{length-encode_with}
use Rattle.locus_ids.specs.Sizes.{inodes_max, sites_max}
use Rattle.locus_ids.specs.declared.ids.FileId.{FileId}
use Rattle.locus_ids.specs.declared.ids.Kind.{Kind}
use Rattle.locus_ids.specs.declared.ids.Kind.TheVariants as kind
use Rattle.locus_ids.specs.declared.ids.Stamp.{Stamp}
use Rattle.trace_book.specs.Names.{is_name_byte, plain_name}
use Rattle.trace_book.specs.Text.{file_text, gap, hex_text, kind_text, reply_text, stamp_text}
use Rattle.trace_book.specs.declared.reply.Reply.{Reply}
use Rattle.trace_book.specs.declared.reply.Reply.TheVariants as reply
use Rattle.schedule_lines.specs.Ranges.{is_between, is_byte}
use Rattle.line_text.specs.Words.{hex_in, is_lower_digit, pieces}
use Rattle.line_text.proofs.CallForms.{and_both, cond_either, map_some}
use Rattle.line_text.proofs.NumberTexts.{between_parts}
use Rattle.line_text.proofs.Splits.{pieces_of, pieces_split, split_none, true_or_false}
use Rattle.wire_fields.specs.Components.{after_at, is_component}
use Rattle.record_words.specs.Answers.{after_ok, names_or_data, refusal_in, reply_in, reply_with}
use Rattle.record_reading.specs.AsRead.{reply_as_read}
use Rattle.record_words.specs.Fields.{all_in, component_in}
use Rattle.record_words.specs.Order.{agrees, number_max}
use Rattle.record_reading.specs.Ranges.{is_data, is_file, is_group, is_inode, is_reply, is_some_data, is_stamp}
use Rattle.record_reading.proofs.AnswerForms.{after_ok_sound, speaks}
use Rattle.record_reading.proofs.Bytes.{all_joined, decimal_digits, each_is, free_lacks, is_digit_byte}
use Rattle.record_reading.proofs.Cases.{said}
use Rattle.record_reading.proofs.DataForms.{data_of, hex_digits, some_data_word, some_of, text_of_some}
use Rattle.record_reading.proofs.Forms.{Exact, Form, Says}
use Rattle.record_reading.proofs.ListForms.{list_form, some_fit}
use Rattle.record_reading.proofs.NameForms.{component_word, itself}
use Rattle.record_reading.proofs.RefusalForms.{refusal_form}

-- ---- words that are components

-- the first byte is a lower-case digit
abbrev begins : List ℕ → Bool
begins [] = false
begins (c ∷ cs) = is_lower_digit c

not_at : (c : ℕ) → is_name_byte c ≡ true → (c == 64) ≡ false
not_at c h =
    ⊎_elim
    (λ (e : (c == 64) ≡ true). let same : c ≡ 64 = eqb-true c 64 e in absurd (false≢true (rw same at h)))
    (λ (e : (c == 64) ≡ false). e)
    (true_or_false (c == 64))

plain_all : (w : List ℕ) → list_all is_name_byte w ≡ true → (plain_name w ≡ w) × (after_at w ≡ None)
plain_all [] h = (refl, refl)
plain_all (c ∷ cs) h =
    let p = and_parts (is_name_byte c) (list_all is_name_byte cs) h in
    let q = plain_all cs p.1 in
    let no = not_at c p.0 in
    (rw (no, q.0) refl, rw no q.1)

no_dot : (c : ℕ) → is_lower_digit c ≡ true → (c == 46) ≡ false
no_dot c h =
    ⊎_elim
    (λ (e : (c == 46) ≡ true). let same : c ≡ 46 = eqb-true c 46 e in absurd (false≢true (rw same at h)))
    (λ (e : (c == 46) ≡ false). e)
    (true_or_false (c == 46))

-- a short word of such bytes that begins with a digit
pub is_named : (w : List ℕ) → begins w ≡ true → list_all is_name_byte w ≡ true → length w ≤ 60 → is_component w ≡ true
is_named [] b h short = absurd (false≢true b)
is_named (c ∷ cs) b h short =
    let p = plain_all (c ∷ cs) h in
    let dot = no_dot c b in
    rw (p.0, p.1, lt-ltb 0 (length (c ∷ cs)) (omega arith), le-leb (length (c ∷ cs)) 60 short, dot) (and_both (list_all is_name_byte (c ∷ cs)) true h refl)

-- a long word is none
not_named : (w : List ℕ) → list_all is_name_byte w ≡ true → 60 < length w → is_component w ≡ false
not_named w h long =
    let p = plain_all w h in
    let some = lt-ltb 0 (length w) (omega arith) in
    let most : nat_le (length w) 60 ≡ false = ⊎_elim (λ (e : nat_le (length w) 60 ≡ true). absurd (let t = leb-true (length w) 60 e in omega (arith, t))) (λ (e : nat_le (length w) 60 ≡ false). e) (true_or_false (nat_le (length w) 60)) in
    rw (p.0, some, most) refl

-- ---- texts of numbers, stamps and files

not_this : (c b : ℕ) → (c ≡ b → ⊥) → not (c == b) ≡ true
not_this c b f =
    ⊎_elim
    (λ (e : (c == b) ≡ true). absurd (f (eqb-true c b e)))
    (λ (e : (c == b) ≡ false). rw e refl)
    (true_or_false (c == b))

name_from : (c : ℕ) → 48 ≤ c → c ≤ 126 → (c ≡ 64 → ⊥) → is_name_byte c ≡ true
name_from c low high at =
    and_both _ _ (and_both _ _ (and_both _ _ (le-leb 33 c (omega arith)) (le-leb c 126 high)) (not_this c 47 (λ e. omega arith))) (not_this c 64 at)

digit_name : (c : ℕ) → is_digit_byte c ≡ true → is_name_byte c ≡ true
digit_name c h =
    let r = between_parts 48 57 c h in
    name_from c r.0 (omega (arith, r.1)) (λ e. omega (arith, r.1))

lower_name : (c : ℕ) → is_lower_digit c ≡ true → is_name_byte c ≡ true
lower_name c h =
    ⊎_elim
    (λ (e : is_between 48 57 c ≡ true). digit_name c e)
    (λ (e : is_between 48 57 c ≡ false).
    let r = between_parts 97 102 c (rw e at h) in
    name_from c (omega (arith, r.0)) (omega (arith, r.1)) (λ t. omega (arith, r.0)))
    (true_or_false (is_between 48 57 c))

decimal_begins : (ds : List ℕ) → list_all is_digit_byte ds ≡ true → 0 < length ds → begins ds ≡ true
decimal_begins [] h some = absurd (omega arith)
decimal_begins (c ∷ cs) h some = rw (and_parts (is_digit_byte c) (list_all is_digit_byte cs) h).0 refl

begins_more : (xs ys : List ℕ) → begins xs ≡ true → begins (xs ++ ys) ≡ true
begins_more [] ys h = absurd (false≢true h)
begins_more (c ∷ cs) ys h = h

-- what is known of the text of a number
pub record NumberWord (n : ℕ) : Type 0 where
  pub first : begins (decimal n) ≡ true
  pub bytes : list_all is_name_byte (decimal n) ≡ true
  pub short : length (decimal n) ≤ 10

number_word : (n : ℕ) → n ≤ number_max → NumberWord n
number_word n small =
    let digits = decimal_digits n (omega arith) in record {
      first = decimal_begins (decimal n) digits (decimal_nonempty n (omega arith));
      bytes = each_is is_digit_byte is_name_byte digit_name (decimal n) digits;
      short = length-decimal-le 10 n (omega arith) (omega arith) (omega arith);
    }

number_component : (low most n : ℕ) → most ≤ number_max → is_between low most n ≡ true → is_component (decimal n) ≡ true
number_component low most n top h =
    let r = between_parts low most n h in
    let w = number_word n (omega (arith, r.1)) in
    is_named (decimal n) w.first w.bytes (omega (arith, w.short))

pair_component : (a b : ℕ) → a ≤ number_max → b ≤ number_max → is_component (decimal a ++ (46 ∷ decimal b)) ≡ true
pair_component a b ha hb =
    let x = number_word a ha in
    let y = number_word b hb in
    let size : length (decimal a ++ (46 ∷ decimal b)) ≡ length (decimal a) + length (46 ∷ decimal b) = length-append (decimal a) (46 ∷ decimal b) in
    is_named (decimal a ++ (46 ∷ decimal b)) (begins_more (decimal a) (46 ∷ decimal b) x.first) (all_joined is_name_byte 46 (decimal a) (decimal b) refl x.bytes y.bytes) (omega (arith, size, x.short, y.short))

stamp_component : (s : Stamp) → is_stamp s ≡ true → is_component (stamp_text s) ≡ true
stamp_component s h =
    let p = and_parts (is_between 0 sites_max s.site && is_between 0 number_max s.n) (agrees s.site s.n) h in
    let q = and_parts (is_between 0 sites_max s.site) (is_between 0 number_max s.n) p.0 in
    let r = between_parts 0 sites_max s.site q.0 in
    let t = between_parts 0 number_max s.n q.1 in
    ap is_component (append_assoc (decimal s.site) (codes ".") (decimal s.n)) ∙ pair_component s.site s.n (omega (arith, r.1)) t.1

file_component : (f : FileId) → is_file f ≡ true → is_component (file_text f) ≡ true
file_component f h =
    let q = and_parts (is_group f.group) (is_inode f.ino) h in
    let r = between_parts 0 3 f.group q.0 in
    let t = between_parts 1 inodes_max f.ino q.1 in
    ap is_component (append_assoc (decimal f.group) (codes ".") (decimal f.ino)) ∙ pair_component f.group f.ino (omega (arith, r.1)) (omega (arith, t.1))

kind_component : (k : Kind) → is_component (kind_text k) ≡ true
kind_component kind.File = refl
kind_component kind.Dir = refl

first_lower : (w : List ℕ) → list_all is_lower_digit w ≡ true → 0 < length w → begins w ≡ true
first_lower [] h some = absurd (omega arith)
first_lower (c ∷ cs) h some = (and_parts (is_lower_digit c) (list_all is_lower_digit cs) h).0

-- how long the text of some bytes is
hex_length : (most : ℕ) (bytes : List ℕ) → is_some_data most bytes ≡ true → length (hex_text bytes) ≡ 2 * length bytes
hex_length most bytes h =
    let p = and_parts (is_between 1 most (length bytes)) (list_all is_byte bytes) h in
    ap length (text_of_some most bytes p.0) ∙ length-encode_with _ bytes

hex_component : (bytes : List ℕ) → is_data 4096 bytes ≡ true → length bytes ≤ 30 → is_component (hex_text bytes) ≡ true
hex_component [] h short = refl
hex_component (b ∷ bs) h short =
    let some = some_of 4096 b bs h in
    let digits = hex_digits 4096 (b ∷ bs) some in
    let size = hex_length 4096 (b ∷ bs) some in
    is_named (hex_text (b ∷ bs)) (first_lower (hex_text (b ∷ bs)) digits (omega arith)) (each_is is_lower_digit is_name_byte lower_name (hex_text (b ∷ bs)) digits) (omega arith)

-- ---- what is read behind an ok

component_list : Exact (join_by itself (codes " ")) (some_fit is_component) (λ w. all_in component_in (pieces 32 w))
component_list = list_form 32 component_word.form component_word.free

names_read : (names : List (List ℕ)) → some_fit is_component names ≡ true → reply_in (codes "ok" ++ (32 ∷ join_by itself (codes " ") names)) ≡ Some (reply.Names names)
names_read names h = rw (component_list.complete names h) refl

one_read : (r : Reply) (w : List ℕ) → reply_text r ≡ codes "ok" ++ (32 ∷ w) → is_component w ≡ true → reply_in (reply_text r) ≡ Some (reply.Names (w ∷ []))
one_read r w t h =
    ap reply_in (t ∙ ap (λ l. codes "ok" ++ (32 ∷ l)) (sym (append-nil w))) ∙ names_read (w ∷ []) (and_both true (is_component w && true) refl (and_both (is_component w) true h refl))

four_words : (k f n s : List ℕ) → codes "ok " ++ k ++ gap ++ f ++ gap ++ n ++ gap ++ s ≡ codes "ok" ++ (32 ∷ join_by itself (codes " ") (k ∷ f ∷ n ∷ s ∷ []))
four_words k f n s = simp (append_assoc, append-nil)

stat_read : (k : Kind) (f : FileId) (size : ℕ) (s : Stamp) → is_reply (reply.Stat k f size s) ≡ true → reply_in (reply_text (reply.Stat k f size s)) ≡ Some (reply.Names (kind_text k ∷ file_text f ∷ decimal size ∷ stamp_text s ∷ []))
stat_read k f size s h =
    let p = and_parts (is_file f) (is_between 0 number_max size && is_stamp s) h in
    let q = and_parts (is_between 0 number_max size) (is_stamp s) p.1 in
    let names = kind_text k ∷ file_text f ∷ decimal size ∷ stamp_text s ∷ [] in
    let text : reply_text (reply.Stat k f size s) ≡ codes "ok" ++ (32 ∷ join_by itself (codes " ") names) = four_words (kind_text k) (file_text f) (decimal size) (stamp_text s) in
    let fit : some_fit is_component names ≡ true =
    rw (kind_component k, file_component f p.0, number_component 0 number_max size (omega arith) q.0, stamp_component s q.1) refl in
    ap reply_in text ∙ names_read names fit

no_component : (w : List ℕ) → is_component w ≡ false → list_all (λ c. not (c == 32)) w ≡ true → all_in component_in (pieces 32 w) ≡ None
no_component w h lacks = ap (all_in component_in) (pieces_split 32 w ∙ ap (pieces_of 32 w) (split_none 32 w (free_lacks 32 w lacks))) ∙ rw h refl

long_data : (bytes : List ℕ) → is_data 4096 bytes ≡ true → 30 < length bytes → reply_in (reply_text (reply.Data bytes)) ≡ Some (reply.Data bytes)
long_data [] h long = absurd (omega arith)
long_data (b ∷ bs) h long =
    let some = some_of 4096 b bs h in
    let digits = hex_digits 4096 (b ∷ bs) some in
    let size = hex_length 4096 (b ∷ bs) some in
    let w = hex_text (b ∷ bs) in
    let none = no_component w (not_named w (each_is is_lower_digit is_name_byte lower_name w digits) (omega arith)) ((some_data_word 4096).free (b ∷ bs) some) in
    rw (none, (some_data_word 4096).form.complete (b ∷ bs) some) refl

data_read : (bytes : List ℕ) → is_data 4096 bytes ≡ true → reply_in (reply_text (reply.Data bytes)) ≡ Some (reply_as_read (reply.Data bytes))
data_read bytes h =
    ⊎_elim
    (λ (e : nat_le (length bytes) 30 ≡ true). rw e (one_read (reply.Data bytes) (hex_text bytes) refl (hex_component bytes h (leb-true (length bytes) 30 e))))
    (λ (e : nat_le (length bytes) 30 ≡ false). rw e (long_data bytes h (above (length bytes) e)))
    (true_or_false (nat_le (length bytes) 30))
  where
    above : (n : ℕ) → nat_le n 30 ≡ false → 30 < n
    above n e = ⊎_elim (λ (low : n < 31). absurd (false≢true (sym e ∙ le-leb n 30 (omega arith)))) (λ (high : 31 ≤ n). omega arith) (cases_lt n 31)

names_complete : (names : List (List ℕ)) → list_all is_component names ≡ true → reply_in (reply_text (reply.Names names)) ≡ Some (reply.Names names)
names_complete [] h = refl
names_complete (n ∷ ns) h = names_read (n ∷ ns) (and_both true (list_all is_component (n ∷ ns)) refl h)

reply_complete : (r : Reply) → is_reply r ≡ true → reply_in (reply_text r) ≡ Some (reply_as_read r)
reply_complete (reply.Made ino) h = one_read (reply.Made ino) (decimal ino) refl (number_component 1 inodes_max ino (omega arith) h)
reply_complete reply.Done h = refl
reply_complete (reply.Names names) h = names_complete names h
reply_complete (reply.Stat k f size s) h = stat_read k f size s h
reply_complete (reply.Opened fd) h = one_read (reply.Opened fd) (decimal fd) refl (number_component 0 65535 fd (omega arith) h)
reply_complete (reply.Data bytes) h = data_read bytes h
reply_complete (reply.Committed stamp) h = one_read (reply.Committed stamp) (stamp_text stamp) refl (stamp_component stamp h)
reply_complete (reply.Closed None) h = refl
reply_complete (reply.Closed (Some stamp)) h = one_read (reply.Closed (Some stamp)) (stamp_text stamp) refl (stamp_component stamp h)
reply_complete (reply.No why) h = rw ((speaks why).1, (speaks why).2, refusal_form.complete why h) refl

-- ---- what is read has the text

names_said : (w rest : List ℕ) (names : List (List ℕ)) → w ≡ codes "ok" ++ (32 ∷ rest) → Says (join_by itself (codes " ")) (some_fit is_component) rest names → Says reply_text is_reply w (reply.Names names)
names_said w rest [] t says = absurd (false≢true says.1)
names_said w rest (n ∷ ns) t says = (t ∙ ap (λ l. codes "ok" ++ (32 ∷ l)) says.0, (and_parts true (list_all is_component (n ∷ ns)) says.1).1)

ok_sound : (w rest : List ℕ) (o : Option (List (List ℕ))) (y : Reply) → w ≡ codes "ok" ++ (32 ∷ rest) → all_in component_in (pieces 32 rest) ≡ o → names_or_data rest o ≡ Some y → Says reply_text is_reply w y
ok_sound w rest None y t e h = map_some (λ bytes. reply.Data bytes) (hex_in 4096 rest) y h (λ bytes k s.
    let p = (some_data_word 4096).form.sound rest bytes k in
    subst (Says reply_text is_reply w) s (t ∙ ap (λ l. codes "ok" ++ (32 ∷ l)) p.0, data_of 4096 bytes p.1))
ok_sound w rest (Some names) y t e h = subst (Says reply_text is_reply w) (same_Some (reply.Names names) y h) (names_said w rest names t (component_list.sound rest names e))

reply_sound : (w : List ℕ) (o : Option (List ℕ)) (y : Reply) → after_ok w ≡ o → reply_with w o ≡ Some y → Says reply_text is_reply w y
reply_sound w None y e h =
    cond_either (bytes_eq w (codes "ok")) _ _ _ h
    (λ b k. said reply_text is_reply w (codes "ok") (reply.Names []) y b k refl refl)
    (λ b k. map_some (λ why. reply.No why) (refusal_in w) y k (λ why m s. subst (Says reply_text is_reply w) s (refusal_form.sound w why m)))
reply_sound w (Some rest) y e h = ok_sound w rest (all_in component_in (pieces 32 rest)) y (after_ok_sound w rest e) refl h

pub reply_form : Form reply_text is_reply reply_as_read reply_in
reply_form = record { sound = λ w y h. reply_sound w (after_ok w) y refl h; complete = reply_complete }
