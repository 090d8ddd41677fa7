-- Pages looked up one after another: those that are found come to the front, and what is kept stays the same.
use Rattle.std.proofs.Common.{◌≡◌, ◌<◌, ℕ, zero, suc, ◌+◌, ◌-◌, ◌/◌, Bool, true, false, cond, nat_lt, List, [], ◌∷◌, ◌++◌, length, Option, Some, None, refl, sym, ap, ◌∙◌, subst, arith, append_assoc, append-nil}
use Rattle.std.specs.Option.{is_some, option_map}
use Rattle.page_cache.specs.declared.page_name.PageName.{PageName}
use Rattle.page_cache.specs.declared.part.Part.{Part}
use Rattle.page_cache.specs.Cached.{CachedPages, brought_first, first_or_same, found, same_page, with_page, without_page}
use Rattle.page_cache.specs.Parts.{and_behind, bytes_from, bytes_within, first_page, held_part, is_whole, looked_up, looked_up_from, name_in, page_among, page_end, part_length, put_from, with_part, with_whole}
use Rattle.plain_facts.proofs.Numbers.{less_test, not_less_test}
use Rattle.page_cache.proofs.Names.{same_is}

module _ (name other : PageName) where
  -- without a page each other one is found as before
  found_without : (pages : CachedPages) → same_page other name ≡ false → found other (without_page name pages) ≡ found other pages
  found_without [] h = refl
  found_without (e ∷ es) h = at (same_page name e.0) refl (found_without es h)
    where
      at : (b : Bool) → same_page name e.0 ≡ b → found other (without_page name es) ≡ found other es → found other (cond b es (e ∷ without_page name es)) ≡ found other (e ∷ es)
      at true t later = let off : same_page other e.0 ≡ false = subst (λ k. same_page other k ≡ false) (same_is name e.0 t) h in ap (λ b. cond b (Some e.1) (found other es)) (sym off)
      at false t later = ap (cond (same_page other e.0) (Some e.1)) later

  found_first : (pages : CachedPages) (o : Option (List ℕ)) → found name pages ≡ o → found other (first_or_same name pages o) ≡ found other pages
  found_first pages None h = refl
  found_first pages (Some bytes) h = at (same_page other name) refl
    where
      at : (b : Bool) → same_page other name ≡ b → cond b (Some bytes) (found other (without_page name pages)) ≡ found other pages
      at true t = sym h ∙ ap (λ k. found k pages) (sym (same_is other name t))
      at false t = found_without pages t

  -- once a page was used, each is found as before
  pub found_stays : (pages : CachedPages) → found other (brought_first name pages) ≡ found other pages
  found_stays pages = found_first pages (found name pages) refl

one_more : (page end : ℕ) → page < end → end - page ≡ suc (end - (page + 1))
one_more page end h = omega (arith, h)

none_left : (end : ℕ) → end - end ≡ 0
none_left end = omega arith

put_behind : (bytes here : List ℕ) (later : Option (List ℕ)) → and_behind (Some (bytes ++ here)) later ≡ and_behind (Some bytes) (and_behind (Some here) later)
put_behind bytes here None = refl
put_behind bytes here (Some more) = ap (λ (x : List ℕ). Some x) (append_assoc bytes here more)

first_bytes : (later : Option (List ℕ)) → and_behind (Some []) later ≡ later
first_bytes None = refl
first_bytes (Some more) = refl

-- What is left of a look-up: with the bytes got so far it gives all of them, and the pages as they are in the end.
pub record Goes (p : Part) (end : ℕ) (all : Option (List ℕ)) (used : CachedPages) (bytes : List ℕ) (page : ℕ) (pages : CachedPages) : Type 0 where
  pub given : and_behind (Some bytes) (bytes_from p page (end - page) pages) ≡ all
  pub left : looked_up_from p page (end - page) pages ≡ used

module _ (p : Part) where
  bytes_stay : (name : PageName) (page more : ℕ) (pages : CachedPages) → bytes_from p page more (brought_first name pages) ≡ bytes_from p page more pages
  bytes_stay name page zero pages = refl
  bytes_stay name page (suc more) pages =
      ap (λ o. and_behind (option_map (bytes_within p page) o) (bytes_from p (page + 1) more (brought_first name pages))) (found_stays name (name_in p page) pages)
      ∙ ap (and_behind (option_map (bytes_within p page) (found (name_in p page) pages))) (bytes_stay name (page + 1) more pages)

  -- where nothing was looked up yet
  pub begins : (first end : ℕ) (pages : CachedPages) → Goes p end (bytes_from p first (end - first) pages) (looked_up_from p first (end - first) pages) [] first pages
  begins first end pages = record { given = first_bytes (bytes_from p first (end - first) pages); left = refl }

  module _ (end : ℕ) (all : Option (List ℕ)) (used : CachedPages) (bytes : List ℕ) (page : ℕ) (pages : CachedPages) where
    -- a page is found: its bytes come behind those before
    pub goes_on : (kept : List ℕ) → page < end → found (name_in p page) pages ≡ Some kept → Goes p end all used bytes page pages → Goes p end all used (bytes ++ bytes_within p page kept) (page + 1) (brought_first (name_in p page) pages)
    goes_on kept h f g =
        let name = name_in p page in
        let later = bytes_from p (page + 1) (end - (page + 1)) pages in
        record {
          given =
              ap (and_behind (Some (bytes ++ bytes_within p page kept))) (bytes_stay name (page + 1) (end - (page + 1)) pages)
              ∙ (put_behind bytes (bytes_within p page kept) later
              ∙ (ap (λ o. and_behind (Some bytes) (and_behind (option_map (bytes_within p page) o) later)) (sym f)
              ∙ (ap (λ n. and_behind (Some bytes) (bytes_from p page n pages)) (sym (one_more page end h)) ∙ g.given)));
          left =
              ap (λ o. cond (is_some o) (looked_up_from p (page + 1) (end - (page + 1)) (brought_first name pages)) pages) (sym f)
              ∙ (ap (λ n. looked_up_from p page n pages) (sym (one_more page end h)) ∙ g.left);
        }

    -- a page isn't found: there is nothing, and the pages stay
    pub ends_early : page < end → found (name_in p page) pages ≡ None → Goes p end all used bytes page pages → (None ≡ all) × (brought_first (name_in p page) pages ≡ used)
    ends_early h f g =
        let name = name_in p page in
        let later = bytes_from p (page + 1) (end - (page + 1)) pages in (
          ap (λ o. and_behind (Some bytes) (and_behind (option_map (bytes_within p page) o) later)) (sym f)
              ∙ (ap (λ n. and_behind (Some bytes) (bytes_from p page n pages)) (sym (one_more page end h)) ∙ g.given),
          ap (first_or_same name pages) f
              ∙ (ap (λ o. cond (is_some o) (looked_up_from p (page + 1) (end - (page + 1)) (brought_first name pages)) pages) (sym f)
              ∙ (ap (λ n. looked_up_from p page n pages) (sym (one_more page end h)) ∙ g.left)),
        )

  -- no page is left: these are the bytes
  pub ends : (end : ℕ) (all : Option (List ℕ)) (used : CachedPages) (bytes : List ℕ) (pages : CachedPages) → Goes p end all used bytes end pages → (Some bytes ≡ all) × (pages ≡ used)
  ends end all used bytes pages g = (
    ap (λ (x : List ℕ). Some x) (sym (append-nil bytes)) ∙ (ap (λ n. and_behind (Some bytes) (bytes_from p end n pages)) (sym (none_left end)) ∙ g.given),
    ap (λ n. looked_up_from p end n pages) (sym (none_left end)) ∙ g.left,
  )

  -- the pages that are looked up are those of the part, where it has bytes
  pub held_is : (count first end : ℕ) (pages : CachedPages) → 0 < count → count ≡ part_length p → first ≡ first_page p → end ≡ page_end p count → bytes_from p first (end - first) pages ≡ held_part p pages
  held_is count first end pages some c f e =
      let is : nat_lt 0 (part_length p) ≡ true = less_test 0 (part_length p) (omega (arith, some, c)) in
      ap (λ (a : ℕ). bytes_from p a (end - a) pages) f
      ∙ (ap (λ (b : ℕ). bytes_from p (first_page p) (b - first_page p) pages) (e ∙ ap (page_end p) c)
      ∙ ap (λ t. cond t (bytes_from p (first_page p) (page_end p (part_length p) - first_page p) pages) None) (sym is))

  pub looked_is : (count first end : ℕ) (pages : CachedPages) → count ≡ part_length p → first ≡ first_page p → end ≡ page_end p count → looked_up_from p first (end - first) pages ≡ looked_up p pages
  looked_is count first end pages c f e =
      ap (λ (a : ℕ). looked_up_from p a (end - a) pages) f ∙ ap (λ (b : ℕ). looked_up_from p (first_page p) (b - first_page p) pages) (e ∙ ap (page_end p) c)

  -- a part without bytes is nothing, and no page of it is looked up
  pub none_held : (count : ℕ) (pages : CachedPages) → count ≡ 0 → count ≡ part_length p → (None ≡ held_part p pages) × (pages ≡ looked_up p pages)
  none_held count pages z c =
      let is : nat_lt 0 (part_length p) ≡ false = not_less_test 0 (part_length p) (omega (arith, z, c)) in (
        ap (λ t. cond t (bytes_from p (first_page p) (page_end p (part_length p) - first_page p) pages) None) (sym is),
        ap (λ n. looked_up_from p (first_page p) n pages) (sym (none_left (first_page p)))
            ∙ ap (λ t. looked_up_from p (first_page p) (cond t ((p.at + part_length p + 1023) / 1024) (first_page p) - first_page p) pages) (sym is),
      )

-- ---- put ----

module _ (p : Part) (bytes : List ℕ) where
  -- a page that the bytes bring whole is put
  pub is_put : (page : ℕ) (pages after : CachedPages) (name : PageName) (made : List ℕ) → is_whole p (length bytes) page ≡ true → name ≡ name_in p page → made ≡ page_among p bytes page → after ≡ with_page name made pages → after ≡ with_whole p bytes page pages
  is_put page pages after name made w n m e =
      e
      ∙ (ap (λ (k : PageName). with_page k made pages) n
      ∙ (ap (λ (b : List ℕ). with_page (name_in p page) b pages) m
      ∙ ap (λ b. cond b (with_page (name_in p page) (page_among p bytes page) pages) pages) (sym w)))

  -- any other isn't
  pub is_not_put : (page : ℕ) (pages : CachedPages) → is_whole p (length bytes) page ≡ false → pages ≡ with_whole p bytes page pages
  is_not_put page pages w = ap (λ b. cond b (with_page (name_in p page) (page_among p bytes page) pages) pages) (sym w)

  -- once a page was put or passed over, the others are left
  pub put_next : (page end : ℕ) (pages next after : CachedPages) → page < end → next ≡ with_whole p bytes page pages → put_from p bytes page (end - page) pages ≡ after → put_from p bytes (page + 1) (end - (page + 1)) next ≡ after
  put_next page end pages next after h e g =
      ap (put_from p bytes (page + 1) (end - (page + 1))) e ∙ (ap (λ n. put_from p bytes page n pages) (sym (one_more page end h)) ∙ g)

  pub put_all : (end : ℕ) (pages after : CachedPages) → put_from p bytes end (end - end) pages ≡ after → pages ≡ after
  put_all end pages after g = ap (λ n. put_from p bytes end n pages) (sym (none_left end)) ∙ g

  pub part_is : (first end : ℕ) (pages : CachedPages) → first ≡ first_page p → end ≡ page_end p (length bytes) → put_from p bytes first (end - first) pages ≡ with_part p bytes pages
  part_is first end pages f e =
      ap (λ (a : ℕ). put_from p bytes a (end - a) pages) f ∙ ap (λ (b : ℕ). put_from p bytes (first_page p) (b - first_page p) pages) e
