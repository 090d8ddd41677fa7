-- Each form of a header line: what is read is spelled so, and what is spelled so is read.
use Rattle.std.proofs.Common.{◌≡◌, ℕ, ◌==◌, true, not, List, [], ◌∷◌, ◌++◌, codes, length, Option, Some, refl, ap, subst, ◌∙◌, lit<}
use Rattle.std.specs.Prelude.{◌&&◌, nat_le, nat_lt}
use Rattle.std.specs.Fmt.{decimal}
use Rattle.std.specs.List.{list_all}
use Rattle.std.specs.Option.{option_map}
use Rattle.std.specs.Str.{bytes_eq}
use Rattle.std.proofs.lemmas.Bool.{and_parts}
use Rattle.std.proofs.lemmas.Option.{none-some, option_and_then_some, same_Some}
use Rattle.std.proofs.lemmas.Slice.Eq.{bytes_eq-Decides}
use Rattle.locus_ids.specs.Sizes.{sites_max}
use Rattle.locus_ids.specs.declared.config.Config.{Config}
use Rattle.trace_book.specs.Names.{is_name, is_name_byte}
use Rattle.trace_book.specs.Text.{gap}
use Rattle.schedule_lines.specs.Cluster.{has_packs, is_mount_name, is_mounted, may_join}
use Rattle.schedule_lines.specs.Ranges.{is_between, is_some_sites, is_word, is_word_byte}
use Rattle.schedule_lines.specs.Spelling.{header_spelling, site_words}
use Rattle.schedule_lines.specs.declared.header.HeaderLine.{HeaderLine}
use Rattle.schedule_lines.specs.declared.header.HeaderLine.TheVariants as header
use Rattle.line_text.specs.HeaderReader.{group_line, header_in, header_with, header_word, mount_line}
use Rattle.line_text.specs.Words.{number_in, sites_in, two_words, word_in}
use Rattle.line_text.specs.declared.header_word.HeaderWord.{HeaderWord}
use Rattle.line_text.specs.declared.header_word.HeaderWord.TheVariants as word
use Rattle.line_text.proofs.CallForms.{and_both, cond_either, map_some, range_complete, range_lacks, two_complete, two_sound, word_sound}
use Rattle.line_text.proofs.NumberTexts.{number_sound}
use Rattle.line_text.proofs.SiteLists.{sites_complete, sites_sound}

abbrev pub header_word_text : HeaderWord → List ℕ
header_word_text word.Sites = codes "sites"
header_word_text word.Group = codes "group"
header_word_text word.Mount = codes "mount"

word_is : (x : List ℕ) (v w : HeaderWord) → bytes_eq x (header_word_text v) ≡ true → Some v ≡ Some w → x ≡ header_word_text w
word_is x v w h e = (bytes_eq-Decides x (header_word_text v)).0 h ∙ ap header_word_text (same_Some v w e)

header_word_sound : (x : List ℕ) (w : HeaderWord) → header_word x ≡ Some w → x ≡ header_word_text w
header_word_sound x w h0 =
    cond_either (bytes_eq x (codes "sites")) _ _ _ h0 (λ b e. word_is x word.Sites w b e) (λ b0 h1.
    cond_either (bytes_eq x (codes "group")) _ _ _ h1 (λ b e. word_is x word.Group w b e) (λ b1 h2.
    cond_either (bytes_eq x (codes "mount")) _ _ _ h2 (λ b e. word_is x word.Mount w b e) (λ b2 h3.
    absurd (none-some w h3))))

-- ---- what is read is spelled so

abbrev pub IsMade : List ℕ → HeaderLine → Type 0
IsMade bytes l = bytes ≡ header_spelling l

made : {A : Type 0} (make : A → HeaderLine) (o : Option A) (bytes : List ℕ) (l : HeaderLine) → option_map make o ≡ Some l → ((x : A) → o ≡ Some x → IsMade bytes (make x)) → IsMade bytes l
made make o bytes l h f = map_some make o l h (λ x e s. subst (IsMade bytes) s (f x e))

sites_line_sound : (rest : List ℕ) (l : HeaderLine) → option_map (λ count. header.Sites count) (number_in 1 sites_max rest) ≡ Some l → IsMade (codes "sites " ++ rest) l
sites_line_sound rest l h = made (λ count. header.Sites count) (number_in 1 sites_max rest) (codes "sites " ++ rest) l h (λ count e.
    ap (λ l. codes "sites " ++ l) (number_sound 1 sites_max rest count e).0)

group_sound : (n : ℕ) (rest : List ℕ) (l : HeaderLine) → group_line n rest ≡ Some l → IsMade (codes "group " ++ rest) l
group_sound n rest l h =
    option_and_then_some _ (two_words rest) l h (λ p e g.
    option_and_then_some _ (number_in 0 3 p.0) l g (λ group e1 g1.
    made (λ sites. header.Group group sites) (sites_in n 32 p.1) (codes "group " ++ rest) l g1 (λ sites e2.
    ap (λ l. codes "group " ++ l)
    (two_sound rest p e ∙ ap (λ l. (l ++ gap) ++ p.1) (number_sound 0 3 p.0 group e1).0 ∙ ap (λ l. (decimal group ++ gap) ++ l) (sites_sound n 32 p.1 sites e2).0))))

mount_sound : (rest : List ℕ) (l : HeaderLine) → mount_line rest ≡ Some l → IsMade (codes "mount " ++ rest) l
mount_sound rest l h =
    option_and_then_some _ (two_words rest) l h (λ p e g.
    option_and_then_some _ (number_in 1 3 p.0) l g (λ group e1 g1.
    made (λ name. header.Mount group name) (word_in p.1) (codes "mount " ++ rest) l g1 (λ name e2.
    ap (λ l. codes "mount " ++ l)
    (two_sound rest p e ∙ ap (λ l. (l ++ gap) ++ p.1) (number_sound 1 3 p.0 group e1).0 ∙ ap (λ l. (decimal group ++ gap) ++ l) (word_sound p.1 name e2).0))))

header_with_sound : (n : ℕ) (w : HeaderWord) (rest : List ℕ) (l : HeaderLine) → header_with n w rest ≡ Some l → IsMade ((header_word_text w ++ gap) ++ rest) l
header_with_sound n word.Sites rest l h = sites_line_sound rest l h
header_with_sound n word.Group rest l h = group_sound n rest l h
header_with_sound n word.Mount rest l h = mount_sound rest l h

pub header_sound : (n : ℕ) (bytes : List ℕ) (l : HeaderLine) → header_in n bytes ≡ Some l → bytes ≡ header_spelling l
header_sound n bytes l h =
    option_and_then_some _ (two_words bytes) l h (λ p e g.
    option_and_then_some _ (header_word p.0) l g (λ w f k.
    two_sound bytes p e ∙ ap (λ l. (l ++ gap) ++ p.1) (header_word_sound p.0 w f) ∙ header_with_sound n w p.1 l k))

-- ---- what is spelled so is read

name_bytes : (name : List ℕ) → list_all is_name_byte name ≡ true → list_all is_word_byte name ≡ true
name_bytes [] h = refl
name_bytes (c ∷ cs) h =
    let p = and_parts (is_name_byte c) (list_all is_name_byte cs) h in
    let q = and_parts (nat_le 33 c && nat_le c 126 && not (c == 47)) (not (c == 64)) p.0 in
    let r = and_parts (nat_le 33 c && nat_le c 126) (not (c == 47)) q.0 in
    and_both (is_word_byte c) (list_all is_word_byte cs) r.0 (name_bytes cs p.1)

-- a name is a word
name_is_word : (name : List ℕ) → is_name name ≡ true → is_word name ≡ true
name_is_word name h =
    let a = and_parts (nat_lt 0 (length name)) _ h in
    let b = and_parts (nat_le (length name) 60) _ a.1 in
    let d = and_parts (not (bytes_eq name (codes "."))) _ b.1 in
    let e = and_parts (not (bytes_eq name (codes ".."))) (list_all is_name_byte name) d.1 in
    and_both (nat_lt 0 (length name)) (list_all is_word_byte name) a.0 (name_bytes name e.1)

pub header_complete : (c : Config) (l : HeaderLine) → may_join c l ≡ true → header_in c.sites (header_spelling l) ≡ Some l
header_complete c (header.Sites count) h =
    let a = and_parts (c.sites == 0) (is_between 1 sites_max count) h in
    rw (range_complete 1 sites_max count (lit< tt) a.1) refl
header_complete c (header.Group group sites) h =
    let a = and_parts (is_between 0 3 group && not (has_packs c group)) (is_some_sites c.sites sites) h in
    let b = and_parts (is_between 0 3 group) (not (has_packs c group)) a.0 in
    rw (
      two_complete (decimal group) (site_words sites) (range_lacks 0 3 group (lit< tt) b.0),
      range_complete 0 3 group (lit< tt) b.0,
      sites_complete c.sites 32 sites (lit< tt) a.1,
    ) refl
header_complete c (header.Mount group name) h =
    let a = and_parts (is_between 1 3 group && has_packs c group && not (is_mounted c group) && is_name name) (not (is_mount_name c name)) h in
    let b = and_parts (is_between 1 3 group && has_packs c group && not (is_mounted c group)) (is_name name) a.0 in
    let d = and_parts (is_between 1 3 group && has_packs c group) (not (is_mounted c group)) b.0 in
    let e = and_parts (is_between 1 3 group) (has_packs c group) d.0 in
    rw (
      two_complete (decimal group) name (range_lacks 1 3 group (lit< tt) e.0),
      range_complete 1 3 group (lit< tt) e.0,
      name_is_word name b.1,
    ) refl
