-- A tree has one copy of a file for each site.
use Rattle.std.proofs.Common.{◌≡◌, ℕ, ◌==◌, ◌≤◌, Bool, true, false, cond, ◌&&◌, List, [], ◌∷◌, ◌++◌, length, filter, map, Some, refl, sym, ◌∙◌, ap, subst, arith}
use Rattle.std.specs.Prelude.{suc}
use Rattle.std.specs.List.{find}
use Rattle.std.specs.Option.{is_none}
use Rattle.locus_ids.specs.declared.config.Config.{Config}
use Rattle.locus_ids.specs.declared.sites.Members.{Members}
use Rattle.locus_ids.specs.declared.ids.EpochId.{EpochId}
use Rattle.trace_book.specs.Same.{same_epoch}
use Rattle.trace_book.specs.declared.record.Record.{Record}
use Rattle.trace_book.specs.declared.record.Record.TheVariants as says
use Rattle.tree_model.specs.declared.copy.HeldCopy.{HeldCopy}
use Rattle.tree_model.specs.Folds.{Trace}
use Rattle.tree_model.specs.Histories.{history}
use Rattle.tree_model.specs.Packs.{has_pack}
use Rattle.tree_model.specs.State.{TreeState, is_copy_of, copy_of, with_copy, is_granted_here, is_make}
use Rattle.tree_model.specs.Tree.{next, tree_of, joined, left, with_root, entered, copy_now}
use Rattle.past_laws.proofs.Names.{number_eq, false_true, both_parts}
use Rattle.past_laws.proofs.TreesFolds.{either}
use Rattle.past_laws.proofs.TreesLists.{filter_map, filter_same, length_map}
use Rattle.past_laws.proofs.TreesCopies.{entered_is, key_is, key_same, root}
use Rattle.std.proofs.lemmas.List.Elements.{filter-append}
use Rattle.std.proofs.Common.{append-nil}

abbrev pub AtMostOne : ℕ → ℕ → List HeldCopy → Type 0
AtMostOne site ino cs = length (filter (is_copy_of site ino) cs) ≤ 1

-- another copy comes in its place
put_same : (new : HeldCopy) (site ino : ℕ) → is_copy_of site ino new ≡ false → (cs : List HeldCopy) → length (filter (is_copy_of site ino) (with_copy new cs)) ≡ length (filter (is_copy_of site ino) cs)
put_same new site ino e [] = ap (λ b. length (cond b (new ∷ []) [])) e
put_same new site ino e (c ∷ cs) = at (put_same new site ino e cs) (is_copy_of new.site new.ino c) (is_copy_of site ino c) refl refl
  where
    rest : List HeldCopy
    rest = filter (is_copy_of site ino) cs

    at : length (filter (is_copy_of site ino) (with_copy new cs)) ≡ length rest → (a b : Bool) → is_copy_of new.site new.ino c ≡ a → is_copy_of site ino c ≡ b → length (filter (is_copy_of site ino) (cond a (new ∷ cs) (c ∷ with_copy new cs))) ≡ length (cond b (c ∷ rest) rest)
    at later true true f g = false_true (sym e ∙ (sym (key_is new c site ino f) ∙ g))
    at later true false f g = ap (λ b. length (cond b (new ∷ rest) rest)) e
    at later false true f g = ap (λ b. length (cond b (c ∷ filter (is_copy_of site ino) (with_copy new cs)) (filter (is_copy_of site ino) (with_copy new cs)))) g ∙ ap suc later
    at later false false f g = ap (λ b. length (cond b (c ∷ filter (is_copy_of site ino) (with_copy new cs)) (filter (is_copy_of site ino) (with_copy new cs)))) g ∙ later

put_one : (new : HeldCopy) (site ino : ℕ) (cs : List HeldCopy) → AtMostOne site ino cs → AtMostOne site ino (with_copy new cs)
put_one new site ino [] h = at (is_copy_of site ino new)
  where
    at : (b : Bool) → length (cond b (new ∷ []) []) ≤ 1
    at true = omega arith
    at false = omega arith
put_one new site ino (c ∷ cs) h = at (put_one new site ino cs) (is_copy_of new.site new.ino c) (is_copy_of site ino c) refl refl h
  where
    rest : List HeldCopy
    rest = filter (is_copy_of site ino) cs

    put : List HeldCopy
    put = filter (is_copy_of site ino) (with_copy new cs)

    apart : (b : Bool) → is_copy_of site ino new ≡ b → is_copy_of new.site new.ino c ≡ false → is_copy_of site ino c ≡ true → is_copy_of site ino new ≡ false
    apart false e f g = e
    apart true e f g = false_true (sym f ∙ key_same new c site ino e g)

    at : (AtMostOne site ino cs → AtMostOne site ino (with_copy new cs)) → (a b : Bool) → is_copy_of new.site new.ino c ≡ a → is_copy_of site ino c ≡ b → length (cond b (c ∷ rest) rest) ≤ 1 → length (filter (is_copy_of site ino) (cond a (new ∷ cs) (c ∷ with_copy new cs))) ≤ 1
    at later true true f g one = subst (λ b. length (cond b (new ∷ rest) rest) ≤ 1) (sym (sym (key_is new c site ino f) ∙ g)) one
    at later true false f g one = subst (λ b. length (cond b (new ∷ rest) rest) ≤ 1) (sym (sym (key_is new c site ino f) ∙ g)) one
    at later false true f g one = subst (λ b. length (cond b (c ∷ put) put) ≤ 1) (sym g) (omega (arith, put_same new site ino (apart (is_copy_of site ino new) refl f g) cs, one))
    at later false false f g one = subst (λ b. length (cond b (c ∷ put) put) ≤ 1) (sym g) (later one)

-- a site joins
entered_one : (z site ino : ℕ) (cs : List HeldCopy) → AtMostOne site ino cs → AtMostOne site ino (map (entered z) cs)
entered_one z site ino cs h = subst (λ n. n ≤ 1) (sym (ap length (filter_map (is_copy_of site ino) (entered z) cs) ∙ (length_map (entered z) (filter (λ c. is_copy_of site ino (entered z c)) cs) ∙ ap length (filter_same (λ c. is_copy_of site ino (entered z c)) (is_copy_of site ino) (entered_is z site ino) cs)))) h

missing : (q : HeldCopy → Bool) (cs : List HeldCopy) → is_none (find q cs) ≡ true → filter q cs ≡ []
missing q [] h = refl
missing q (c ∷ cs) h = at (missing q cs) (q c) h
  where
    at : (is_none (find q cs) ≡ true → filter q cs ≡ []) → (b : Bool) → is_none (cond b (Some c) (find q cs)) ≡ true → cond b (c ∷ filter q cs) (filter q cs) ≡ []
    at later true k = false_true k
    at later false k = later k

pub rooted_one : (t : TreeState) (z site ino : ℕ) → AtMostOne site ino t.copies → AtMostOne site ino (with_root t z)
rooted_one t z site ino h = at (has_pack t.config t.group z) (is_none (copy_of t.copies z 1)) refl
  where
    own : (b : Bool) → is_none (copy_of t.copies z 1) ≡ true → is_copy_of site ino (root z) ≡ b → length (filter (is_copy_of site ino) t.copies ++ cond b (root z ∷ []) []) ≤ 1
    own true e f = subst (λ cs. length (cs ++ root z ∷ []) ≤ 1) (sym (ap (λ s. filter (is_copy_of s ino) t.copies) (sym (number_eq z site parts.0)) ∙ (ap (λ n. filter (is_copy_of z n) t.copies) (sym (number_eq 1 ino parts.1)) ∙ missing (is_copy_of z 1) t.copies e))) (omega arith)
      where
        parts : ((z == site) ≡ true) × ((1 == ino) ≡ true)
        parts = both_parts (z == site) (1 == ino) f
    own false e f = subst (λ cs. length cs ≤ 1) (sym (append-nil (filter (is_copy_of site ino) t.copies))) h

    at : (a b : Bool) → is_none (copy_of t.copies z 1) ≡ b → AtMostOne site ino (cond (a && b) (t.copies ++ root z ∷ []) t.copies)
    at true true e = subst (λ cs. length cs ≤ 1) (sym (filter-append (is_copy_of site ino) t.copies (root z ∷ []))) (own (is_copy_of site ino (root z)) e refl)
    at true false e = h
    at false b e = h

pub one_seat : (c : Config) (e : EpochId) (group : ℕ) (before : Trace) (site ino : ℕ) → AtMostOne site ino (tree_of c e group before).copies
one_seat c e group [] site ino = omega arith
one_seat c e group (r ∷ before) site ino = over r.what (one_seat c e group before site ino)
  where
    t : TreeState
    t = tree_of c e group before

    join : (z : ℕ) (m : Members) (b : Bool) → AtMostOne site ino t.copies → AtMostOne site ino (cond b (joined z m t) (left z t)).copies
    join z m true h = entered_one z site ino (with_root t z) (rooted_one t z site ino h)
    join z m false h = h

    comes : (new : HeldCopy) (b : Bool) → AtMostOne site ino t.copies → AtMostOne site ino (cond b (with_copy new t.copies) t.copies)
    comes new true h = put_one new site ino t.copies h
    comes new false h = h

    over : (x : Record) → AtMostOne site ino t.copies → AtMostOne site ino (next (history c before) x t).copies
    over (says.Join z a m) h = join z m (same_epoch a t.epoch) h
    over (says.Start a g copies) h = subst (AtMostOne site ino) (sym (either (λ (u : TreeState). u.copies) (same_epoch a t.epoch && (g == t.group)) _ t refl)) h
    over (says.Grant a call request i m g stamp ss) h = subst (AtMostOne site ino) (sym (either (λ (u : TreeState). u.copies) (same_epoch a t.epoch) _ t refl)) h
    over (says.Refuse a call request i m g why) h = subst (AtMostOne site ino) (sym (either (λ (u : TreeState). u.copies) (same_epoch a t.epoch && ((g.group == t.group) && is_make m)) _ t refl)) h
    over (says.Act a i n o result) h = subst (AtMostOne site ino) (sym (either (λ (u : TreeState). u.copies) (same_epoch a t.epoch && is_granted_here t i) _ t refl)) h
    over (says.Release a i g stamp) h = subst (AtMostOne site ino) (sym (either (λ (u : TreeState). u.copies) (same_epoch a t.epoch && (g.group == t.group)) _ t refl)) h
    over (says.Commit g z stamp parents content) h = comes (copy_now t z g.ino stamp) (g.group == t.group) h
    over (says.Adopt g z stamp) h = comes (copy_now t z g.ino stamp) (g.group == t.group) h
    over _ h = h
