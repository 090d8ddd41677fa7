-- Back to a record of the trace: what came as it may before it did so, and what was so then is so now.
use Rattle.std.proofs.Common.{◌≡◌, ℕ, List, [], ◌∷◌, ◌++◌, Some, refl, sym, ◌∙◌, ap, subst, inl, inr}
use Rattle.locus_ids.specs.declared.config.Config.{Config}
use Rattle.locus_ids.specs.declared.ids.CallId.{CallId}
use Rattle.locus_ids.specs.declared.ids.FileId.{FileId}
use Rattle.locus_ids.specs.declared.ids.Stamp.{Stamp}
use Rattle.commit_graph.specs.Versions.{content_of}
use Rattle.trace_book.specs.declared.entry.Entry.{Entry}
use Rattle.trace_book.specs.declared.record.Record.{Record}
use Rattle.role_steps.specs.Views.{Told, Shown}
use Rattle.the_run.specs.Worlds.{Line}
use Rattle.tree_model.specs.declared.accepted.Waiting.{Waiting}
use Rattle.tree_model.specs.Calls.{call_named}
use Rattle.tree_model.specs.Folds.{Trace}
use Rattle.tree_model.specs.Histories.{history}
use Rattle.lawful_trace.specs.Tables.{begun}
use Rattle.tree_laws.specs.Following.{IsFollowed, MayTell}
use Rattle.tree_laws.specs.Instances.{Stands}
use Rattle.tree_laws.specs.Past.{Was}
use Rattle.tree_laws.specs.Printed.{entries, onto_entries}
use Rattle.tree_laws.proofs.Fresh.{IsNamed}
use Rattle.tree_laws.proofs.Histories.{content_same, stands_more}
use Rattle.tree_laws.proofs.Scripts.{begun_stays, named_stays}
use Rattle.calm_laws.specs.of_store_laws.OneTree.Rest.{EachRest}

-- the record was told after these lines
pub record Stood (c : Config) (t : List Line) (r : Record) (before : Trace) : Type 0 where
  pub news : List Line
  pub number : ℕ
  pub older : List Line
  pub split : t ≡ news ++ record { number = number; told = Shown r } ∷ older
  pub same : entries older ≡ before
  pub followed : IsFollowed c older
  pub rest : EachRest c older
  pub may : MayTell c older (Shown r)

nothing_stood : (later : Trace) (r : Entry) (before : Trace) → [] ≡ later ++ r ∷ before → ⊥
nothing_stood [] r before e = cc
nothing_stood (y ∷ ys) r before e = cc

heads : (x y : Entry) (xs ys : Trace) → x ∷ xs ≡ y ∷ ys → x ≡ y
heads x y xs ys e = cc

tails : (x y : Entry) (xs ys : Trace) → x ∷ xs ≡ y ∷ ys → xs ≡ ys
tails x y xs ys e = cc

pub stood : (c : Config) (t : List Line) → IsFollowed c t → EachRest c t → (later : Trace) (r : Entry) (before : Trace) → entries t ≡ later ++ r ∷ before → Stood c t r.what before
stood c [] h rest later r before e = absurd (nothing_stood later r before e)
stood c (x ∷ older) h rest later r before e = over (λ ys k. stood c older h.1 rest.1 ys r before k) x.told refl h.0 e
  where
    -- it is this line, or an earlier one
    on : Stood c older r.what before → Stood c (x ∷ older) r.what before
    on k = record { news = x ∷ k.news; number = k.number; older = k.older; split = ap (λ (xs : List Line). x ∷ xs) k.split; same = k.same; followed = k.followed; rest = k.rest; may = k.may }

    here : (q : Record) → x.told ≡ Shown q → MayTell c older (Shown q) → q ≡ r.what → entries older ≡ before → Stood c (x ∷ older) r.what before
    here q is may what same = record { news = []; number = x.number; older = older; split = ap (λ (y : Told). record { number = x.number; told = y } ∷ older) (is ∙ ap Shown what); same = same; followed = h.1; rest = rest.1; may = subst (λ (y : Record). MayTell c older (Shown y)) what may }

    Earlier : Type 0
    Earlier = (ys : Trace) → entries older ≡ ys ++ r ∷ before → Stood c older r.what before

    shown : Earlier → (q : Record) → x.told ≡ Shown q → MayTell c older (Shown q) → (ys : Trace) → record { line = x.number; what = q } ∷ entries older ≡ ys ++ r ∷ before → Stood c (x ∷ older) r.what before
    shown before_it q is may [] k = here q is may (ap (λ (y : Entry). y.what) (heads (record { line = x.number; what = q }) r (entries older) before k)) (tails (record { line = x.number; what = q }) r (entries older) before k)
    shown before_it q is may (y ∷ ys) k = on (before_it ys (tails (record { line = x.number; what = q }) y (entries older) (ys ++ r ∷ before) k))

    over : Earlier → (y : Told) → x.told ≡ y → MayTell c older y → onto_entries x.number y (entries older) ≡ later ++ r ∷ before → Stood c (x ∷ older) r.what before
    over before_it (Shown q) is may k = shown before_it q is may later k
    over before_it y is may k = on (before_it later k)

-- ---- what was so is so now ----

was_since : (P : List Line → Told → Type 0) (news older : List Line) → Was P older → Was P (news ++ older)
was_since P [] older k = k
was_since P (x ∷ xs) older k = inr (was_since P xs older k)

named_since : (c : Config) (news older : List Line) → IsFollowed c (news ++ older) → (d : CallId) (w : Waiting) → call_named (entries older) d ≡ Some w → call_named (entries (news ++ older)) d ≡ Some w
named_since c [] older h d w k = k
named_since c (x ∷ xs) older h d w k = (let was : call_named (entries (xs ++ older)) d ≡ Some w = named_since c xs older h.1 d w k in named_stays c x.number x.told (xs ++ older) d h.1 h.0 (w, was) ∙ was)

begun_since : (c : Config) (news older : List Line) → IsFollowed c (news ++ older) → (d : CallId) → IsNamed (entries older) d → begun (entries (news ++ older)) d ≡ begun (entries older) d
begun_since c [] older h d k = refl
begun_since c (x ∷ xs) older h d k = begun_stays c x.number x.told (xs ++ older) d h.1 h.0 (k.0, named_since c xs older h.1 d k.0 k.1) ∙ begun_since c xs older h.1 d k

stands_since : (c : Config) (news older : List Line) (f : FileId) (s : Stamp) → Stands c older f s → Stands c (news ++ older) f s
stands_since c [] older f s k = k
stands_since c (x ∷ xs) older f s k = stands_more c x.number x.told (xs ++ older) f s (stands_since c xs older f s k)

rest_since : (c : Config) (news older : List Line) → EachRest c (news ++ older) → EachRest c older
rest_since c [] older rest = rest
rest_since c (x ∷ xs) older rest = rest_since c xs older rest.1

content_since : (c : Config) (news older : List Line) → EachRest c (news ++ older) → (f : FileId) (s : Stamp) → Stands c older f s → content_of (history c (entries (news ++ older))) f s ≡ content_of (history c (entries older)) f s
content_since c [] older rest f s k = refl
content_since c (x ∷ xs) older rest f s k = content_same c x.number x.told (xs ++ older) f s rest.0.fresh (stands_since c xs older f s k) ∙ content_since c xs older rest.1 f s k

module _ (c : Config) (t : List Line) (h : IsFollowed c t) (rest : EachRest c t) (r : Record) (before : Trace) (k : Stood c t r before) where
  abbrev line : Line
  line = record { number = k.number; told = Shown r }

  pub was_then : (P : List Line → Told → Type 0) → Was P k.older → Was P t
  was_then P was = subst (Was P) (sym k.split) (was_since P k.news (line ∷ k.older) (inr was))

  -- it is of this sort itself
  pub was_there : (P : List Line → Told → Type 0) → P k.older (Shown r) → Was P t
  was_there P now = subst (Was P) (sym k.split) (was_since P k.news (line ∷ k.older) (inl now))

  all_followed : IsFollowed c (k.news ++ line ∷ k.older)
  all_followed = subst (IsFollowed c) k.split h

  pub named_then : (d : CallId) (w : Waiting) → call_named (entries k.older) d ≡ Some w → call_named (entries t) d ≡ Some w
  named_then d w is = subst (λ (xs : List Line). call_named (entries xs) d ≡ Some w) (sym k.split)
      (named_since c k.news (line ∷ k.older) all_followed d w (named_stays c k.number (Shown r) k.older d k.followed k.may (w, is) ∙ is))

  pub begun_then : (d : CallId) → IsNamed (entries k.older) d → begun (entries t) d ≡ begun (entries k.older) d
  begun_then d is = subst (λ (xs : List Line). begun (entries xs) d ≡ begun (entries k.older) d) (sym k.split)
      (begun_since c k.news (line ∷ k.older) all_followed d (is.0, named_stays c k.number (Shown r) k.older d k.followed k.may is ∙ is.1) ∙ begun_stays c k.number (Shown r) k.older d k.followed k.may is)

  pub stands_then : (f : FileId) (s : Stamp) → Stands c k.older f s → Stands c t f s
  stands_then f s is = subst (λ (xs : List Line). Stands c xs f s) (sym k.split) (stands_since c k.news (line ∷ k.older) f s (stands_more c k.number (Shown r) k.older f s is))

  all_rest : EachRest c (k.news ++ line ∷ k.older)
  all_rest = subst (EachRest c) k.split rest

  pub content_then : (f : FileId) (s : Stamp) → Stands c k.older f s → content_of (history c (entries t)) f s ≡ content_of (history c (entries k.older)) f s
  content_then f s is = subst (λ (xs : List Line). content_of (history c (entries xs)) f s ≡ content_of (history c (entries k.older)) f s) (sym k.split)
      (content_since c k.news (line ∷ k.older) all_rest f s (stands_more c k.number (Shown r) k.older f s is) ∙ content_same c k.number (Shown r) k.older f s (rest_since c k.news (line ∷ k.older) all_rest).0.fresh is)
