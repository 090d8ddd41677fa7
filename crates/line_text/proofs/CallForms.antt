-- Each form of a call: what is read is spelled so, and what is spelled so is read.
use Rattle.std.proofs.Common.{◌≡◌, ℕ, zero, suc, ◌<◌, ◌≤◌, ◌^◌, Bool, true, false, cond, List, [], ◌∷◌, ◌++◌, codes, length, Option, Some, None, refl, sym, ap, subst, ◌∙◌, arith, append_assoc, lit<, ◌-◌}
use Rattle.std.specs.Prelude.{◌&&◌, min, nat_le, nat_lt}
use Rattle.std.specs.Fmt.{decimal}
use Rattle.std.specs.List.{list_all}
use Rattle.std.specs.Option.{option_map}
use Rattle.std.specs.Str.{bytes_eq}
use Rattle.std.proofs.lemmas.Bool.{and_parts, le-leb, false≢true}
use Rattle.std.proofs.lemmas.Option.{cond_some, none-some, option_and_then_some, same_Some}
use Rattle.std.proofs.lemmas.Slice.Eq.{bytes_eq-Decides}
use Rattle.locus_ids.specs.Sizes.{sites_max, file_bytes_max, descriptor_span}
use Rattle.trace_book.specs.Text.{call_words, gap, hex_text, opening_text, sites_text}
use Rattle.trace_book.specs.declared.call.Call.{Call}
use Rattle.trace_book.specs.declared.call.Call.TheVariants as call
use Rattle.trace_book.specs.declared.call.OpenMode.{OpenMode}
use Rattle.trace_book.specs.declared.call.OpenMode.TheVariants as how
use Rattle.hex.specs.Hex.{encode_lower}
use Rattle.schedule_lines.specs.Ranges.{fits_call, fits_mode, is_between, is_byte, is_descriptor, is_site, is_some_sites, is_word, is_word_byte}
use Rattle.line_text.specs.Words.{Lacks, hex_in, number_in, site_in, sites_in, split_at, three_words, two_words, word_in}
use Rattle.line_text.specs.CallReader.{call_in, call_with, call_word, create_with, cut_call, descriptor_in, mail_call, mode_in, open_call, read_call, rename_call, resolve_mode, write_call}
use Rattle.line_text.specs.declared.call_word.CallWord.{CallWord}
use Rattle.line_text.specs.declared.call_word.CallWord.TheVariants as word
use Rattle.line_text.proofs.HexWords.{hex_complete, hex_sound}
use Rattle.line_text.proofs.NumberTexts.{between_parts, decimal_lacks, number_complete, number_sound}
use Rattle.line_text.proofs.SiteLists.{sites_complete, sites_sound}
use Rattle.line_text.proofs.Splits.{split_found, split_none, split_sound}

-- ---- words

pub and_both : (a b : Bool) → a ≡ true → b ≡ true → (a && b) ≡ true
and_both a b ha hb = rw (ha, hb) refl

pub two_sound : (bytes : List ℕ) (p : List ℕ × List ℕ) → two_words bytes ≡ Some p → bytes ≡ (p.0 ++ gap) ++ p.1
two_sound bytes p h = split_sound 32 bytes p h ∙ sym (append_assoc p.0 gap p.1)

pub two_complete : (a b : List ℕ) → Lacks 32 a → two_words ((a ++ gap) ++ b) ≡ Some (a, b)
two_complete a b h = ap (split_at 32) (append_assoc a gap b) ∙ split_found 32 a b h

regroup : (a b c : List ℕ) → (((a ++ gap) ++ b) ++ gap) ++ c ≡ (a ++ gap) ++ ((b ++ gap) ++ c)
regroup a b c = simp append_assoc

pub three_first : (a b c : List ℕ) → Lacks 32 a → two_words ((((a ++ gap) ++ b) ++ gap) ++ c) ≡ Some (a, (b ++ gap) ++ c)
three_first a b c h = ap two_words (regroup a b c) ∙ two_complete a ((b ++ gap) ++ c) h

pub three_complete : (a b c : List ℕ) → Lacks 32 a → Lacks 32 b → three_words ((((a ++ gap) ++ b) ++ gap) ++ c) ≡ Some (a, b, c)
three_complete a b c ha hb = rw (three_first a b c ha, two_complete b c hb) refl

pub map_some : {A B P : Type 0} (f : A → B) (o : Option A) (y : B) → option_map f o ≡ Some y → ((x : A) → o ≡ Some x → f x ≡ y → P) → P
map_some f None y h k = absurd (none-some y h)
map_some f (Some x) y h k = k x refl (same_Some (f x) y h)

pub three_sound : (bytes : List ℕ) (p : List ℕ × List ℕ × List ℕ) → three_words bytes ≡ Some p → bytes ≡ (((p.0 ++ gap) ++ p.1) ++ gap) ++ p.2
three_sound bytes p h =
    option_and_then_some (λ p. option_map (λ q. (p.0, q.0, q.1)) (two_words p.1)) (two_words bytes) p h (λ q e g.
    map_some (λ r. (q.0, r.0, r.1)) (two_words q.1) p g (λ r f s.
    two_sound bytes q e
    ∙ ap (λ l. (q.0 ++ gap) ++ l) (two_sound q.1 r f)
    ∙ sym (regroup q.0 r.0 r.1)
    ∙ ap (λ (t : List ℕ × List ℕ × List ℕ). (((t.0 ++ gap) ++ t.1) ++ gap) ++ t.2) s))

pub word_sound : (w v : List ℕ) → word_in w ≡ Some v → (w ≡ v) × (is_word v ≡ true)
word_sound w v h = let p = cond_some (is_word w) w v h in (p.1, ap is_word (sym p.1) ∙ p.0)

bytes_lack : (w : List ℕ) → list_all is_word_byte w ≡ true → Lacks 32 w
bytes_lack [] h k lt e = omega arith
bytes_lack (c ∷ cs) h zero lt e =
    let p = and_parts (is_word_byte c) (list_all is_word_byte cs) h in
    let low : 33 ≤ c = (between_parts 33 126 c p.0).0 in
    let same : c ≡ 32 = e in
    omega arith
bytes_lack (c ∷ cs) h (suc k) lt e =
    let p = and_parts (is_word_byte c) (list_all is_word_byte cs) h in
    bytes_lack cs p.1 k (omega arith) e

pub word_lacks : (w : List ℕ) → is_word w ≡ true → Lacks 32 w
word_lacks w h = bytes_lack w (and_parts (nat_lt 0 (length w)) (list_all is_word_byte w) h).1

-- ---- numbers

pub range_complete : (low most n : ℕ) → most < 2 ^ 32 → is_between low most n ≡ true → number_in low most (decimal n) ≡ Some n
range_complete low most n small h =
    let top : n ≤ most = (between_parts low most n h).1 in
    number_complete low most n (omega arith) h

pub from_zero : (most n : ℕ) → nat_le n most ≡ true → is_between 0 most n ≡ true
from_zero most n h = and_both (nat_le 0 n) (nat_le n most) (le-leb 0 n (omega arith)) h

pub to_most : (most n : ℕ) → is_between 0 most n ≡ true → nat_le n most ≡ true
to_most most n h = (and_parts (nat_le 0 n) (nat_le n most) h).1

pub upto_complete : (most n : ℕ) → most < 2 ^ 32 → nat_le n most ≡ true → number_in 0 most (decimal n) ≡ Some n
upto_complete most n small h = range_complete 0 most n small (from_zero most n h)

pub range_lacks : (low most n : ℕ) → most < 2 ^ 32 → is_between low most n ≡ true → Lacks 32 (decimal n)
range_lacks low most n small h =
    let top : n ≤ most = (between_parts low most n h).1 in
    decimal_lacks 32 n (lit< tt) (omega arith)

pub upto_lacks : (most n : ℕ) → most < 2 ^ 32 → nat_le n most ≡ true → Lacks 32 (decimal n)
upto_lacks most n small h = range_lacks 0 most n small (from_zero most n h)

pub site_complete : (n site : ℕ) → is_site n site ≡ true → site_in n (decimal site) ≡ Some site
site_complete n site h = range_complete 1 (min n sites_max) site (omega arith) h

pub site_lacks : (n site : ℕ) → is_site n site ≡ true → Lacks 32 (decimal site)
site_lacks n site h = range_lacks 1 (min n sites_max) site (omega arith) h

-- ---- tests

pub cond_either : {A P : Type 0} (b : Bool) (x y z : A) → cond b x y ≡ z → (b ≡ true → x ≡ z → P) → (b ≡ false → y ≡ z → P) → P
cond_either true x y z h f g = f refl h
cond_either false x y z h f g = g refl h

-- ---- first words

abbrev pub call_word_text : CallWord → List ℕ
call_word_text word.Create = codes "create"
call_word_text word.MakeDir = codes "mkdir"
call_word_text word.Unlink = codes "unlink"
call_word_text word.RemoveDir = codes "rmdir"
call_word_text word.Rename = codes "rename"
call_word_text word.List = codes "list"
call_word_text word.Stat = codes "stat"
call_word_text word.Open = codes "open"
call_word_text word.Read = codes "read"
call_word_text word.Write = codes "write"
call_word_text word.Cut = codes "cut"
call_word_text word.Commit = codes "commit"
call_word_text word.Abort = codes "abort"
call_word_text word.Close = codes "close"
call_word_text word.Mail = codes "mail"
call_word_text word.Mails = codes "mails"

word_is : (x : List ℕ) (v w : CallWord) → bytes_eq x (call_word_text v) ≡ true → Some v ≡ Some w → x ≡ call_word_text w
word_is x v w h e = (bytes_eq-Decides x (call_word_text v)).0 h ∙ ap call_word_text (same_Some v w e)

call_word_sound : (x : List ℕ) (w : CallWord) → call_word x ≡ Some w → x ≡ call_word_text w
call_word_sound x w h0 =
    cond_either (bytes_eq x (codes "create")) _ _ _ h0 (λ b e. word_is x word.Create w b e) (λ b0 h1.
    cond_either (bytes_eq x (codes "mkdir")) _ _ _ h1 (λ b e. word_is x word.MakeDir w b e) (λ b1 h2.
    cond_either (bytes_eq x (codes "unlink")) _ _ _ h2 (λ b e. word_is x word.Unlink w b e) (λ b2 h3.
    cond_either (bytes_eq x (codes "rmdir")) _ _ _ h3 (λ b e. word_is x word.RemoveDir w b e) (λ b3 h4.
    cond_either (bytes_eq x (codes "rename")) _ _ _ h4 (λ b e. word_is x word.Rename w b e) (λ b4 h5.
    cond_either (bytes_eq x (codes "list")) _ _ _ h5 (λ b e. word_is x word.List w b e) (λ b5 h6.
    cond_either (bytes_eq x (codes "stat")) _ _ _ h6 (λ b e. word_is x word.Stat w b e) (λ b6 h7.
    cond_either (bytes_eq x (codes "open")) _ _ _ h7 (λ b e. word_is x word.Open w b e) (λ b7 h8.
    cond_either (bytes_eq x (codes "read")) _ _ _ h8 (λ b e. word_is x word.Read w b e) (λ b8 h9.
    cond_either (bytes_eq x (codes "write")) _ _ _ h9 (λ b e. word_is x word.Write w b e) (λ b9 h10.
    cond_either (bytes_eq x (codes "cut")) _ _ _ h10 (λ b e. word_is x word.Cut w b e) (λ b10 h11.
    cond_either (bytes_eq x (codes "commit")) _ _ _ h11 (λ b e. word_is x word.Commit w b e) (λ b11 h12.
    cond_either (bytes_eq x (codes "abort")) _ _ _ h12 (λ b e. word_is x word.Abort w b e) (λ b12 h13.
    cond_either (bytes_eq x (codes "close")) _ _ _ h13 (λ b e. word_is x word.Close w b e) (λ b13 h14.
    cond_either (bytes_eq x (codes "mail")) _ _ _ h14 (λ b e. word_is x word.Mail w b e) (λ b14 h15.
    cond_either (bytes_eq x (codes "mails")) _ _ _ h15 (λ b e. word_is x word.Mails w b e) (λ b15 h16.
    absurd (none-some w h16)))))))))))))))))

-- ---- what is read is spelled so

-- the words are the call, which fits
abbrev pub IsMade : ℕ → List ℕ → Call → Type 0
IsMade n words c = (words ≡ call_words c) × (fits_call n c ≡ true)

made : (n : ℕ) (words : List ℕ) (a b : Call) → a ≡ b → IsMade n words a → IsMade n words b
made n words a b e h = subst (IsMade n words) e h

create_sound : (n : ℕ) (rest : List ℕ) (o : Option (List ℕ × List ℕ)) (c : Call) → two_words rest ≡ o → create_with n rest o ≡ Some c → IsMade n (codes "create " ++ rest) c
create_sound n rest None c e h = map_some (λ path. call.Create path None) (word_in rest) c h (λ path f s.
    let w = word_sound rest path f in
    made n (codes "create " ++ rest) (call.Create path None) c s (ap (λ l. codes "create " ++ l) w.0, and_both (is_word path) true w.1 refl))
create_sound n rest (Some p) c e h = option_and_then_some _ (sites_in n 44 p.1) c h (λ sites f g. map_some (λ path. call.Create path (Some sites)) (word_in p.0) c g (λ path k s.
    let w = word_sound p.0 path k in
    let t = sites_sound n 44 p.1 sites f in
    made n (codes "create " ++ rest) (call.Create path (Some sites)) c s (
      ap (λ l. codes "create " ++ l) (two_sound rest p e ∙ ap (λ l. (l ++ gap) ++ p.1) w.0 ∙ ap (λ l. (path ++ gap) ++ l) t.0),
      and_both (is_word path) (is_some_sites n sites) w.1 t.1,
    )))

rename_sound : (n : ℕ) (rest : List ℕ) (c : Call) → rename_call rest ≡ Some c → IsMade n (codes "rename " ++ rest) c
rename_sound n rest c h = option_and_then_some _ (two_words rest) c h (λ p e g. option_and_then_some _ (word_in p.0) c g (λ path f k. map_some (λ name. call.Rename path name) (word_in p.1) c k (λ name t s.
    let a = word_sound p.0 path f in
    let b = word_sound p.1 name t in
    made n (codes "rename " ++ rest) (call.Rename path name) c s (
      ap (λ l. codes "rename " ++ l) (two_sound rest p e ∙ ap (λ l. (l ++ gap) ++ p.1) a.0 ∙ ap (λ l. (path ++ gap) ++ l) b.0),
      and_both (is_word path) (is_word name) a.1 b.1,
    ))))

resolve_sound : (n : ℕ) (w : List ℕ) (o : Option (List ℕ × List ℕ)) (m : OpenMode) → two_words w ≡ o → resolve_mode n o ≡ Some m → (w ≡ opening_text m) × (fits_mode n m ≡ true)
resolve_sound n w None m e h = absurd (none-some m h)
resolve_sound n w (Some p) m e h =
    cond_either (bytes_eq p.0 (codes "x")) _ _ _ h
    (λ b g. map_some (λ site. how.Resolve site) (site_in n p.1) m g (λ site f s.
    let t = number_sound 1 (min n sites_max) p.1 site f in
    let x : p.0 ≡ codes "x" = (bytes_eq-Decides p.0 (codes "x")).0 b in
    subst (λ k. (w ≡ opening_text k) × (fits_mode n k ≡ true)) s (two_sound w p e ∙ ap (λ l. (l ++ gap) ++ p.1) x ∙ ap (λ l. codes "x " ++ l) t.0, t.1)))
    (λ b g. absurd (none-some m g))

mode_sound : (n : ℕ) (w : List ℕ) (m : OpenMode) → mode_in n w ≡ Some m → (w ≡ opening_text m) × (fits_mode n m ≡ true)
mode_sound n w m h =
    cond_either (bytes_eq w (codes "r")) _ _ _ h
    (λ b e. subst (λ k. (w ≡ opening_text k) × (fits_mode n k ≡ true)) (same_Some how.Read m e) ((bytes_eq-Decides w (codes "r")).0 b, refl))
    (λ b g. cond_either (bytes_eq w (codes "w")) _ _ _ g
    (λ d e. subst (λ k. (w ≡ opening_text k) × (fits_mode n k ≡ true)) (same_Some how.Write m e) ((bytes_eq-Decides w (codes "w")).0 d, refl))
    (λ d k. cond_either (bytes_eq w (codes "s")) _ _ _ k
    (λ s e. subst (λ k. (w ≡ opening_text k) × (fits_mode n k ≡ true)) (same_Some how.Steady m e) ((bytes_eq-Decides w (codes "s")).0 s, refl))
    (λ s k. resolve_sound n w (two_words w) m refl k)))

open_sound : (n : ℕ) (rest : List ℕ) (c : Call) → open_call n rest ≡ Some c → IsMade n (codes "open " ++ rest) c
open_sound n rest c h = option_and_then_some _ (two_words rest) c h (λ p e g. option_and_then_some _ (mode_in n p.1) c g (λ mode f k. map_some (λ path. call.Open path mode) (word_in p.0) c k (λ path t s.
    let a = word_sound p.0 path t in
    let b = mode_sound n p.1 mode f in
    made n (codes "open " ++ rest) (call.Open path mode) c s (
      ap (λ l. codes "open " ++ l) (two_sound rest p e ∙ ap (λ l. (l ++ gap) ++ p.1) a.0 ∙ ap (λ l. (path ++ gap) ++ l) b.0),
      and_both (is_word path) (fits_mode n mode) a.1 b.1,
    ))))

read_sound : (n : ℕ) (rest : List ℕ) (c : Call) → read_call rest ≡ Some c → IsMade n (codes "read " ++ rest) c
read_sound n rest c h =
    option_and_then_some _ (three_words rest) c h (λ p e g.
    option_and_then_some _ (descriptor_in p.0) c g (λ fd e1 g1.
    option_and_then_some _ (number_in 0 file_bytes_max p.1) c g1 (λ at e2 g2.
    map_some (λ len. call.Read fd at len) (number_in 0 4096 p.2) c g2 (λ len e3 s.
    let a = number_sound 0 (descriptor_span - 1) p.0 fd e1 in
    let b = number_sound 0 file_bytes_max p.1 at e2 in
    let d = number_sound 0 4096 p.2 len e3 in
    made n (codes "read " ++ rest) (call.Read fd at len) c s (
      ap (λ l. codes "read " ++ l)
          (three_sound rest p e
          ∙ ap (λ l. (((l ++ gap) ++ p.1) ++ gap) ++ p.2) a.0
          ∙ ap (λ l. (((decimal fd ++ gap) ++ l) ++ gap) ++ p.2) b.0
          ∙ ap (λ l. (((decimal fd ++ gap) ++ decimal at) ++ gap) ++ l) d.0),
      and_both (is_descriptor fd && nat_le at file_bytes_max) (nat_le len 4096) (and_both (is_descriptor fd) (nat_le at file_bytes_max) (to_most (descriptor_span - 1) fd a.1) (to_most file_bytes_max at b.1)) (to_most 4096 len d.1),
    )))))

text_of_some : (bytes : List ℕ) → is_between 1 4096 (length bytes) ≡ true → hex_text bytes ≡ encode_lower bytes
text_of_some [] h = absurd (false≢true h)
text_of_some (b ∷ bs) h = refl

write_sound : (n : ℕ) (rest : List ℕ) (c : Call) → write_call rest ≡ Some c → IsMade n (codes "write " ++ rest) c
write_sound n rest c h =
    option_and_then_some _ (three_words rest) c h (λ p e g.
    option_and_then_some _ (descriptor_in p.0) c g (λ fd e1 g1.
    option_and_then_some _ (number_in 0 file_bytes_max p.1) c g1 (λ at e2 g2.
    map_some (λ bytes. call.Write fd at bytes) (hex_in 4096 p.2) c g2 (λ bytes e3 s.
    let a = number_sound 0 (descriptor_span - 1) p.0 fd e1 in
    let b = number_sound 0 file_bytes_max p.1 at e2 in
    let d = hex_sound 4096 p.2 bytes e3 in
    made n (codes "write " ++ rest) (call.Write fd at bytes) c s (
      ap (λ l. codes "write " ++ l)
          (three_sound rest p e
          ∙ ap (λ l. (((l ++ gap) ++ p.1) ++ gap) ++ p.2) a.0
          ∙ ap (λ l. (((decimal fd ++ gap) ++ l) ++ gap) ++ p.2) b.0
          ∙ ap (λ l. (((decimal fd ++ gap) ++ decimal at) ++ gap) ++ l) (d.0 ∙ sym (text_of_some bytes d.1))),
      and_both (is_descriptor fd && nat_le at file_bytes_max && is_between 1 4096 (length bytes)) (list_all is_byte bytes)
          (and_both (is_descriptor fd && nat_le at file_bytes_max) (is_between 1 4096 (length bytes))
          (and_both (is_descriptor fd) (nat_le at file_bytes_max) (to_most (descriptor_span - 1) fd a.1) (to_most file_bytes_max at b.1)) d.1) d.2,
    )))))

cut_sound : (n : ℕ) (rest : List ℕ) (c : Call) → cut_call rest ≡ Some c → IsMade n (codes "cut " ++ rest) c
cut_sound n rest c h = option_and_then_some _ (two_words rest) c h (λ p e g. option_and_then_some _ (descriptor_in p.0) c g (λ fd f k. map_some (λ len. call.Cut fd len) (number_in 0 file_bytes_max p.1) c k (λ len t s.
    let a = number_sound 0 (descriptor_span - 1) p.0 fd f in
    let b = number_sound 0 file_bytes_max p.1 len t in
    made n (codes "cut " ++ rest) (call.Cut fd len) c s (
      ap (λ l. codes "cut " ++ l) (two_sound rest p e ∙ ap (λ l. (l ++ gap) ++ p.1) a.0 ∙ ap (λ l. (decimal fd ++ gap) ++ l) b.0),
      and_both (is_descriptor fd) (nat_le len file_bytes_max) (to_most (descriptor_span - 1) fd a.1) (to_most file_bytes_max len b.1),
    ))))

mkdir_sound : (n : ℕ) (rest : List ℕ) (c : Call) → option_map (λ path. call.MakeDir path) (word_in rest) ≡ Some c → IsMade n (codes "mkdir " ++ rest) c
mkdir_sound n rest c h = map_some (λ path. call.MakeDir path) (word_in rest) c h (λ path f s.
    let w = word_sound rest path f in
    made n (codes "mkdir " ++ rest) (call.MakeDir path) c s (ap (λ l. codes "mkdir " ++ l) w.0, w.1))

unlink_sound : (n : ℕ) (rest : List ℕ) (c : Call) → option_map (λ path. call.Unlink path) (word_in rest) ≡ Some c → IsMade n (codes "unlink " ++ rest) c
unlink_sound n rest c h = map_some (λ path. call.Unlink path) (word_in rest) c h (λ path f s.
    let w = word_sound rest path f in
    made n (codes "unlink " ++ rest) (call.Unlink path) c s (ap (λ l. codes "unlink " ++ l) w.0, w.1))

rmdir_sound : (n : ℕ) (rest : List ℕ) (c : Call) → option_map (λ path. call.RemoveDir path) (word_in rest) ≡ Some c → IsMade n (codes "rmdir " ++ rest) c
rmdir_sound n rest c h = map_some (λ path. call.RemoveDir path) (word_in rest) c h (λ path f s.
    let w = word_sound rest path f in
    made n (codes "rmdir " ++ rest) (call.RemoveDir path) c s (ap (λ l. codes "rmdir " ++ l) w.0, w.1))

list_sound : (n : ℕ) (rest : List ℕ) (c : Call) → option_map (λ path. call.List path) (word_in rest) ≡ Some c → IsMade n (codes "list " ++ rest) c
list_sound n rest c h = map_some (λ path. call.List path) (word_in rest) c h (λ path f s.
    let w = word_sound rest path f in
    made n (codes "list " ++ rest) (call.List path) c s (ap (λ l. codes "list " ++ l) w.0, w.1))

stat_sound : (n : ℕ) (rest : List ℕ) (c : Call) → option_map (λ path. call.Stat path) (word_in rest) ≡ Some c → IsMade n (codes "stat " ++ rest) c
stat_sound n rest c h = map_some (λ path. call.Stat path) (word_in rest) c h (λ path f s.
    let w = word_sound rest path f in
    made n (codes "stat " ++ rest) (call.Stat path) c s (ap (λ l. codes "stat " ++ l) w.0, w.1))

commit_sound : (n : ℕ) (rest : List ℕ) (c : Call) → option_map (λ fd. call.Commit fd) (descriptor_in rest) ≡ Some c → IsMade n (codes "commit " ++ rest) c
commit_sound n rest c h = map_some (λ fd. call.Commit fd) (descriptor_in rest) c h (λ fd f s.
    let a = number_sound 0 (descriptor_span - 1) rest fd f in
    made n (codes "commit " ++ rest) (call.Commit fd) c s (ap (λ l. codes "commit " ++ l) a.0, to_most (descriptor_span - 1) fd a.1))

abort_sound : (n : ℕ) (rest : List ℕ) (c : Call) → option_map (λ fd. call.Abort fd) (descriptor_in rest) ≡ Some c → IsMade n (codes "abort " ++ rest) c
abort_sound n rest c h = map_some (λ fd. call.Abort fd) (descriptor_in rest) c h (λ fd f s.
    let a = number_sound 0 (descriptor_span - 1) rest fd f in
    made n (codes "abort " ++ rest) (call.Abort fd) c s (ap (λ l. codes "abort " ++ l) a.0, to_most (descriptor_span - 1) fd a.1))

close_sound : (n : ℕ) (rest : List ℕ) (c : Call) → option_map (λ fd. call.Close fd) (descriptor_in rest) ≡ Some c → IsMade n (codes "close " ++ rest) c
close_sound n rest c h = map_some (λ fd. call.Close fd) (descriptor_in rest) c h (λ fd f s.
    let a = number_sound 0 (descriptor_span - 1) rest fd f in
    made n (codes "close " ++ rest) (call.Close fd) c s (ap (λ l. codes "close " ++ l) a.0, to_most (descriptor_span - 1) fd a.1))

mails_sound : (n : ℕ) (rest : List ℕ) (c : Call) → option_map (λ path. call.Mails path) (word_in rest) ≡ Some c → IsMade n (codes "mails " ++ rest) c
mails_sound n rest c h = map_some (λ path. call.Mails path) (word_in rest) c h (λ path f s.
    let w = word_sound rest path f in
    made n (codes "mails " ++ rest) (call.Mails path) c s (ap (λ l. codes "mails " ++ l) w.0, w.1))

mail_sound : (n : ℕ) (rest : List ℕ) (c : Call) → mail_call rest ≡ Some c → IsMade n (codes "mail " ++ rest) c
mail_sound n rest c h = option_and_then_some _ (two_words rest) c h (λ p e g. option_and_then_some _ (word_in p.0) c g (λ path f k. map_some (λ bytes. call.Mail path bytes) (hex_in 4096 p.1) c k (λ bytes t s.
    let a = word_sound p.0 path f in
    let d = hex_sound 4096 p.1 bytes t in
    made n (codes "mail " ++ rest) (call.Mail path bytes) c s (
      ap (λ l. codes "mail " ++ l) (two_sound rest p e ∙ ap (λ l. (l ++ gap) ++ p.1) a.0 ∙ ap (λ l. (path ++ gap) ++ l) (d.0 ∙ sym (text_of_some bytes d.1))),
      and_both (is_word path && is_between 1 4096 (length bytes)) (list_all is_byte bytes) (and_both (is_word path) (is_between 1 4096 (length bytes)) a.1 d.1) d.2,
    ))))

call_with_sound : (n : ℕ) (w : CallWord) (rest : List ℕ) (c : Call) → call_with n w rest ≡ Some c → IsMade n ((call_word_text w ++ gap) ++ rest) c
call_with_sound n word.Create rest c h = create_sound n rest (two_words rest) c refl h
call_with_sound n word.MakeDir rest c h = mkdir_sound n rest c h
call_with_sound n word.Unlink rest c h = unlink_sound n rest c h
call_with_sound n word.RemoveDir rest c h = rmdir_sound n rest c h
call_with_sound n word.Rename rest c h = rename_sound n rest c h
call_with_sound n word.List rest c h = list_sound n rest c h
call_with_sound n word.Stat rest c h = stat_sound n rest c h
call_with_sound n word.Open rest c h = open_sound n rest c h
call_with_sound n word.Read rest c h = read_sound n rest c h
call_with_sound n word.Write rest c h = write_sound n rest c h
call_with_sound n word.Cut rest c h = cut_sound n rest c h
call_with_sound n word.Commit rest c h = commit_sound n rest c h
call_with_sound n word.Abort rest c h = abort_sound n rest c h
call_with_sound n word.Close rest c h = close_sound n rest c h
call_with_sound n word.Mail rest c h = mail_sound n rest c h
call_with_sound n word.Mails rest c h = mails_sound n rest c h

pub call_sound : (n : ℕ) (words : List ℕ) (c : Call) → call_in n words ≡ Some c → IsMade n words c
call_sound n words c h =
    option_and_then_some _ (two_words words) c h (λ p e g.
    option_and_then_some _ (call_word p.0) c g (λ w f k.
    let s = call_with_sound n w p.1 c k in
    (two_sound words p e ∙ ap (λ l. (l ++ gap) ++ p.1) (call_word_sound p.0 w f) ∙ s.0, s.1)))

-- ---- what is spelled so is read

pub mode_complete : (n : ℕ) (m : OpenMode) → fits_mode n m ≡ true → mode_in n (opening_text m) ≡ Some m
mode_complete n how.Read h = refl
mode_complete n how.Write h = refl
mode_complete n how.Steady h = refl
mode_complete n (how.Resolve site) h = rw (site_complete n site h) refl

pub call_complete : (n : ℕ) (c : Call) → fits_call n c ≡ true → call_in n (call_words c) ≡ Some c
call_complete n (call.Create path None) h =
    let w = (and_parts (is_word path) true h).0 in
    rw (split_none 32 path (word_lacks path w), w) refl
call_complete n (call.Create path (Some sites)) h =
    let w = and_parts (is_word path) (is_some_sites n sites) h in
    rw (two_complete path (sites_text sites) (word_lacks path w.0), sites_complete n 44 sites (lit< tt) w.1, w.0) refl
call_complete n (call.MakeDir path) h = rw h refl
call_complete n (call.Unlink path) h = rw h refl
call_complete n (call.RemoveDir path) h = rw h refl
call_complete n (call.Rename path name) h =
    let w = and_parts (is_word path) (is_word name) h in
    rw (two_complete path name (word_lacks path w.0), w.0, w.1) refl
call_complete n (call.List path) h = rw h refl
call_complete n (call.Stat path) h = rw h refl
call_complete n (call.Mail path bytes) h =
    let d = and_parts (is_word path && is_between 1 4096 (length bytes)) (list_all is_byte bytes) h in
    let a = and_parts (is_word path) (is_between 1 4096 (length bytes)) d.0 in
    rw (
      text_of_some bytes a.1,
      two_complete path (encode_lower bytes) (word_lacks path a.0),
      a.0,
      hex_complete 4096 bytes a.1 d.1,
    ) refl
call_complete n (call.Mails path) h = rw h refl
call_complete n (call.Open path mode) h =
    let w = and_parts (is_word path) (fits_mode n mode) h in
    rw (two_complete path (opening_text mode) (word_lacks path w.0), mode_complete n mode w.1, w.0) refl
call_complete n (call.Read fd at len) h =
    let a = and_parts (is_descriptor fd && nat_le at file_bytes_max) (nat_le len 4096) h in
    let b = and_parts (is_descriptor fd) (nat_le at file_bytes_max) a.0 in
    rw (
      three_complete (decimal fd) (decimal at) (decimal len) (upto_lacks (descriptor_span - 1) fd (lit< tt) b.0) (upto_lacks file_bytes_max at (lit< tt) b.1),
      upto_complete (descriptor_span - 1) fd (lit< tt) b.0,
      upto_complete file_bytes_max at (lit< tt) b.1,
      upto_complete 4096 len (lit< tt) a.1,
    ) refl
call_complete n (call.Write fd at bytes) h =
    let d = and_parts (is_descriptor fd && nat_le at file_bytes_max && is_between 1 4096 (length bytes)) (list_all is_byte bytes) h in
    let a = and_parts (is_descriptor fd && nat_le at file_bytes_max) (is_between 1 4096 (length bytes)) d.0 in
    let b = and_parts (is_descriptor fd) (nat_le at file_bytes_max) a.0 in
    rw (
      text_of_some bytes a.1,
      three_complete (decimal fd) (decimal at) (encode_lower bytes) (upto_lacks (descriptor_span - 1) fd (lit< tt) b.0) (upto_lacks file_bytes_max at (lit< tt) b.1),
      upto_complete (descriptor_span - 1) fd (lit< tt) b.0,
      upto_complete file_bytes_max at (lit< tt) b.1,
      hex_complete 4096 bytes a.1 d.1,
    ) refl
call_complete n (call.Cut fd len) h =
    let a = and_parts (is_descriptor fd) (nat_le len file_bytes_max) h in
    rw (
      two_complete (decimal fd) (decimal len) (upto_lacks (descriptor_span - 1) fd (lit< tt) a.0),
      upto_complete (descriptor_span - 1) fd (lit< tt) a.0,
      upto_complete file_bytes_max len (lit< tt) a.1,
    ) refl
call_complete n (call.Commit fd) h = rw (upto_complete (descriptor_span - 1) fd (lit< tt) h) refl
call_complete n (call.Abort fd) h = rw (upto_complete (descriptor_span - 1) fd (lit< tt) h) refl
call_complete n (call.Close fd) h = rw (upto_complete (descriptor_span - 1) fd (lit< tt) h) refl
call_complete n (call.Mend file) h = absurd (false≢true h)
