-- While a resolution has its file open, several versions of the file are kept.
use Rattle.std.proofs.Common.{◌≡◌, ℕ, true, List, [], ◌∷◌, length, Option, Some, None, refl, sym, ap, ◌∙◌, subst, inl, inr}
use Rattle.std.specs.Option.{is_none}
use Rattle.role_steps.proofs.of_plain_facts.Options.{some_none}
use Rattle.role_steps.proofs.of_plain_facts.Tests.{and_first, and_second}
use Rattle.locus_ids.specs.declared.config.Config.{Config}
use Rattle.locus_ids.specs.declared.ids.CallId.{CallId}
use Rattle.locus_ids.specs.declared.ids.EpochId.{EpochId}
use Rattle.locus_ids.specs.declared.ids.FileId.{FileId}
use Rattle.locus_ids.specs.declared.ids.Mode.{Mode}
use Rattle.locus_ids.specs.declared.ids.Mode.TheVariants as mode
use Rattle.locus_ids.specs.declared.ids.Serial.{Serial}
use Rattle.locus_ids.specs.declared.ids.Stamp.{Stamp}
use Rattle.commit_graph.specs.Grants.{Opener, excluder, grant_refusal, kept_refusal}
use Rattle.trace_book.specs.declared.record.Record.{Record}
use Rattle.trace_book.specs.declared.record.Record.TheVariants as says
use Rattle.role_steps.specs.Views.{Told, Shown}
use Rattle.the_run.specs.Worlds.{Line}
use Rattle.tree_model.specs.Histories.{history}
use Rattle.tree_model.specs.Opening.{open_refusal, place_refusal}
use Rattle.tree_model.specs.State.{TreeState, instance_in, kept_of, openers}
use Rattle.tree_model.specs.Tree.{kept_in, tree_of}
use Rattle.tree_laws.specs.Following.{IsFollowed, MayTell}
use Rattle.tree_laws.specs.Past.{GrantRecord, Printed, WasGranted, WasReleased}
use Rattle.tree_laws.specs.Printed.{entries, onto_entries}
use Rattle.tree_laws.proofs.Rows.{followed_rows}
use Rattle.store_laws.specs.of_tree_laws.Orders.Joining.{PacksAreOfSites}
use Rattle.store_laws.specs.of_tree_laws.Orders.Keeping.{PassesBy}
use Rattle.store_laws.proofs.of_tree_laws.Orders.Alone.{first_none, unrefused}
use Rattle.store_laws.proofs.of_tree_laws.Orders.Keeping.{IsNew, kept_by}
use Rattle.store_laws.proofs.of_tree_laws.Orders.ProcessOpen.{OpenAs, granted_open}
use Rattle.store_laws.proofs.Holdings.Begun.{open_in_group}
use Rattle.store_laws.proofs.Holdings.Kept.{open_keeps}
use Rattle.store_laws.proofs.Holdings.Made.{CommitsAreNew}

abbrev With : ℕ → Told → List Line → List Line
With n x older = record { number = n; told = x } ∷ older

-- a resolution is refused where one version is kept
kept_several : (ks : List Stamp) → kept_refusal mode.Resolve ks ≡ None → length ks ≡ 1 → ⊥
kept_several [] e one = cc
kept_several (a ∷ []) e one = some_none _ e
kept_several (a ∷ b ∷ ks) e one = cc

resolves_several : (os : List Opener) (ks : List Stamp) → grant_refusal mode.Resolve os ks ≡ None → length ks ≡ 1 → ⊥
resolves_several os ks e one = kept_several ks (rw (unrefused mode.Resolve os ks (excluder mode.Resolve os) refl e) at e) one

-- what is kept of the file of an open instance is kept while it isn't released
open_kept : (c : Config) (older : List Line) (n : ℕ) (x : Told) → PacksAreOfSites c → IsFollowed c older → MayTell c older x → CommitsAreNew c (onto_entries n x (entries older)) → (e : EpochId) (d : CallId) (i : Serial) (m : Mode) (f : FileId) (ss : ℕ) →
    OpenAs c older e d i m f ss → (WasReleased (With n x older) e i → ⊥) → kept_in c (onto_entries n x (entries older)) e f ≡ kept_in c (entries older) e f
open_kept c older n (Shown r) few h may new e d i m f ss k live = open_keeps c (entries older) few (followed_rows c older h) e f i k.at
    (subst (λ (y : FileId). instance_in (tree_of c e y.group (entries older)) i ≡ Some k.at) k.file_is (open_in_group c older h e i k.at k.found)) k.file_is n r may.row (passes r new.0 live)
  where
    passes : (r : Record) → IsNew c (entries older) r → (WasReleased (With n (Shown r) older) e i → ⊥) → PassesBy c (entries older) e f i r
    passes (says.Commit g z made parents content) new live = new
    passes (says.Release at inst g last) new live = λ p q. live (inl (record { epoch_is = p; serial_is = q }))
    passes _ new live = tt
open_kept c older n _ few h may new e d i m f ss k live = refl

-- when it is granted
granted_several : (c : Config) (older : List Line) (n : ℕ) (x : Told) → PacksAreOfSites c → IsFollowed c older → MayTell c older x → (e : EpochId) (d : CallId) (request : ℕ) (i : Serial) (f : FileId) (stamp : Option Stamp) (ss : ℕ) →
    Printed (GrantRecord e d request i mode.Resolve f stamp ss) older x → length (kept_in c (onto_entries n x (entries older)) e f) ≡ 1 → ⊥
granted_several c older n (Shown r) few h may e d request i f stamp ss now one = over r may now one
  where
    over : (r : Record) → MayTell c older (Shown r) → GrantRecord e d request i mode.Resolve f stamp ss older r → length (kept_in c (record { line = n; what = r } ∷ entries older) e f) ≡ 1 → ⊥
    over (says.Grant at call number inst m g on place) may k one = resolves_several (openers t f) (kept_of (history c (entries older)) t f) unrefusing (sym (ap length same) ∙ one)
      where
        t : TreeState
        t = tree_of c e f.group (entries older)

        Given : EpochId → Mode → FileId → Type 0
        Given z o y = (is_none (open_refusal (history c (entries older)) (tree_of c z y.group (entries older)) o call y) ≡ true) × ((tree_of c z y.group (entries older)).started ≡ true)

        given : Given e mode.Resolve f
        given = subst (λ (y : FileId). Given e mode.Resolve y) k.file_is (subst (λ (o : Mode). Given e o g) k.mode_is (subst (λ (z : EpochId). Given z m g) k.epoch_is
            (and_first (is_none (open_refusal (history c (entries older)) (tree_of c at g.group (entries older)) m call g)) _ (and_second (tree_of c at g.group (entries older)).started _ may.row.gives), and_first (tree_of c at g.group (entries older)).started _ may.row.gives)))

        unrefusing : grant_refusal mode.Resolve (openers t f) (kept_of (history c (entries older)) t f) ≡ None
        unrefusing = first_none (grant_refusal mode.Resolve (openers t f) (kept_of (history c (entries older)) t f)) (place_refusal (history c (entries older)) t mode.Resolve call f) given.0

        same : kept_in c (record { line = n; what = says.Grant at call number inst m g on place } ∷ entries older) e f ≡ kept_in c (entries older) e f
        same = kept_by c (entries older) few (followed_rows c older h) e f given.1 n (says.Grant at call number inst m g on place) may.row tt tt
    over _ may k one = absurd k
granted_several c older n _ few h may e d request i f stamp ss now one = absurd now

pub open_several : (c : Config) (t : List Line) → PacksAreOfSites c → IsFollowed c t → CommitsAreNew c (entries t) → (e : EpochId) (d : CallId) (request : ℕ) (i : Serial) (f : FileId) (stamp : Option Stamp) (ss : ℕ) → WasGranted t e d request i mode.Resolve f stamp ss → (WasReleased t e i → ⊥) →
    length (kept_in c (entries t) e f) ≡ 1 → ⊥
open_several c [] few h new e d request i f stamp ss was live one = absurd was
open_several c (y ∷ older) few h new e d request i f stamp ss (inl now) live one = granted_several c older y.number y.told few h.1 h.0 e d request i f stamp ss now one
open_several c (y ∷ older) few h new e d request i f stamp ss (inr was) live one = open_several c older few h.1 (older_new y.told new) e d request i f stamp ss was (λ r. live (inr r))
    (sym (ap length (open_kept c older y.number y.told few h.1 h.0 new e d i mode.Resolve f ss (granted_open c older h.1 e d request i mode.Resolve f stamp ss was (λ r. live (inr r))) live)) ∙ one)
  where
    older_new : (x : Told) → CommitsAreNew c (onto_entries y.number x (entries older)) → CommitsAreNew c (entries older)
    older_new (Shown r) p = p.1
    older_new _ p = p
