-- A site that is in an epoch is in its list with its boot, and the records tell that list.
use Rattle.std.proofs.Common.{◌≡◌, ℕ, ◌==◌, Bool, true, false, cond, List, [], ◌∷◌, Option, Some, None, refl, sym, ◌∙◌, ap, inl, inr, arith}
use Rattle.std.proofs.lemmas.Bool.Decides.{nat_tests}
use Rattle.std.specs.Option.{is_some}
use Rattle.locus_ids.specs.declared.config.Config.{Config}
use Rattle.locus_ids.specs.declared.ids.EpochId.{EpochId}
use Rattle.locus_ids.specs.declared.sites.Members.{Members}
use Rattle.trace_book.specs.Same.{same_epoch}
use Rattle.trace_book.specs.declared.record.Record.{Record}
use Rattle.trace_book.specs.declared.record.Record.TheVariants as says
use Rattle.schedule_lines.specs.declared.line.ScheduleLine.{ScheduleLine}
use Rattle.role_steps.specs.Views.{SiteView, Told, Shown}
use Rattle.role_steps.specs.declared.rounds.InEpoch.{InEpoch}
use Rattle.tree_model.specs.Folds.{Trace}
use Rattle.tree_model.specs.Epochs.{boot_of, epoch_of, members_of}
use Rattle.tree_model.specs.Packs.{boot_in}
use Rattle.the_run.specs.Joins.{Joined}
use Rattle.the_run.specs.Steps.{epoch_id}
use Rattle.the_run.specs.Worlds.{Running, Line, place_at}
use Rattle.the_run.specs.Runs.{run_in}
use Rattle.the_run.proofs.OneList.{one_list, epochs_joined}
use Rattle.row_laws.specs.Shown.{with_told, shown, trace_of, EachRecord}
use Rattle.row_laws.specs.Rows.{MemberRecord, IsMemberRow}
use Rattle.row_laws.specs.Voids.{CutsNoSelf}
use Rattle.row_laws.proofs.AskedRun.{run_members}
use Rattle.row_laws.proofs.SitesGoOn.{listed_before}
use Rattle.row_laws.proofs.OrderlyRows.Reached.{running_boot, running_epoch}

none_some : (id : EpochId) → ◌≡◌ {A = Option EpochId} None (Some id) → ⊥
none_some id e = cc

some_same : (a b : EpochId) → ◌≡◌ {A = Option EpochId} (Some a) (Some b) → a ≡ b
some_same a b e = cc

-- ---- the list of the epoch that a site is in ----

-- the site has joined the epoch, with a list that has it with its boot
record InList (s : ℕ) (trace : List Line) (id : EpochId) : Type 0 where
  members : Members
  joined : Joined s id members trace
  boot_is : boot_in members s ≡ boot_of (shown trace) s

abbrev IsListed : ℕ → List Line → Option EpochId → Type 0
IsListed s trace o = (id : EpochId) → o ≡ Some id → InList s trace id

longer : (s : ℕ) (x : Line) (older : List Line) (id : EpochId) → boot_of (with_told x.number x.told (shown older)) s ≡ boot_of (shown older) s → InList s older id → InList s (x ∷ older) id
longer s x older id e h = record { members = h.members; joined = inr h.joined; boot_is = h.boot_is ∙ sym e }

record_listed : (s n : ℕ) (r : Record) (older : List Line) → MemberRecord (shown older) r → IsListed s older (epoch_of (shown older) s) → IsListed s (record { number = n; told = Shown r } ∷ older) (epoch_of (record { line = n; what = r } ∷ shown older) s)
record_listed s n (says.Join t i m) older row h =
    (elim (t == s) as (λ b. (t == s) ≡ b → IsListed s (record { number = n; told = Shown (says.Join t i m) } ∷ older) (cond b (Some i) (epoch_of (shown older) s))) [
      | true ↦ λ e id f. own id (equal e) (some_same i id f)
      | false ↦ λ e id f. longer s (record { number = n; told = Shown (says.Join t i m) }) older id refl (h id f)
    ]) refl
  where
    equal : (t == s) ≡ true → t ≡ s
    equal e = grind (arith, nat_tests)

    own : (id : EpochId) → t ≡ s → i ≡ id → InList s (record { number = n; told = Shown (says.Join t i m) } ∷ older) id
    own id e f = record { members = m; joined = inl (e, f, refl); boot_is = ap (boot_in m) (sym e) ∙ (row ∙ ap (boot_of (shown older)) e) }
record_listed s n (says.Up t b) older row h =
    (elim (t == s) as (λ z. (t == s) ≡ z → IsListed s (record { number = n; told = Shown (says.Up t b) } ∷ older) (cond z None (epoch_of (shown older) s))) [
      | true ↦ λ e id f. absurd (none_some id f)
      | false ↦ λ e id f. longer s (record { number = n; told = Shown (says.Up t b) }) older id (ap (λ (z : Bool). cond z b (boot_of (shown older) s)) e) (h id f)
    ]) refl
record_listed s n (says.Leave t i) older row h =
    elim (t == s) as (λ z. IsListed s (record { number = n; told = Shown (says.Leave t i) } ∷ older) (cond z None (epoch_of (shown older) s))) [
      | true ↦ λ id f. absurd (none_some id f)
      | false ↦ λ id f. longer s (record { number = n; told = Shown (says.Leave t i) }) older id refl (h id f)
    ]
record_listed s n (says.Stopped t why) older row h =
    elim (t == s) as (λ z. IsListed s (record { number = n; told = Shown (says.Stopped t why) } ∷ older) (cond z None (epoch_of (shown older) s))) [
      | true ↦ λ id f. absurd (none_some id f)
      | false ↦ λ id f. longer s (record { number = n; told = Shown (says.Stopped t why) }) older id refl (h id f)
    ]
record_listed s n _ older row h = λ id f. record { members = (h id f).members; joined = inr (h id f).joined; boot_is = (h id f).boot_is }

told_listed : (s n : ℕ) (x : Told) (older : List Line) → EachRecord IsMemberRow (with_told n x (shown older)) → IsListed s older (epoch_of (shown older) s) → IsListed s (record { number = n; told = x } ∷ older) (epoch_of (with_told n x (shown older)) s)
told_listed s n (Shown r) older rows h = record_listed s n r older rows.0 h
told_listed s n _ older rows h = λ id f. record { members = (h id f).members; joined = inr (h id f).joined; boot_is = (h id f).boot_is }

older_rows : (n : ℕ) (x : Told) (older : Trace) → EachRecord IsMemberRow (with_told n x older) → EachRecord IsMemberRow older
older_rows n (Shown r) older rows = rows.1
older_rows n _ older rows = rows

all_listed : (s : ℕ) (trace : List Line) → EachRecord IsMemberRow (shown trace) → IsListed s trace (epoch_of (shown trace) s)
all_listed s [] rows = λ id e. absurd (none_some id e)
all_listed s (x ∷ older) rows = told_listed s x.number x.told older rows (all_listed s older (older_rows x.number x.told (shown older) rows))

-- in every run in which no site is cut off from itself
pub own_boot : (c : Config) (lines : List ScheduleLine) → CutsNoSelf lines → (s : ℕ) (v : SiteView) (e : InEpoch) → place_at (run_in c lines) s ≡ Some (Running v) → v.epoch ≡ Some e → boot_in e.members s ≡ v.boot
own_boot c lines none s v e here k =
    let r : InList s (run_in c lines).trace e.id = all_listed s (run_in c lines).trace (run_members c lines none) e.id (running_epoch c lines s v here ∙ ap epoch_id k) in
    let j : Joined e.id.site e.id e.members (run_in c lines).trace = (epochs_joined c lines).joined s v e here k in
    ap (λ (m : Members). boot_in m s) (one_list c lines e.id.site s e.id e.members r.members j r.joined) ∙ (r.boot_is ∙ running_boot c lines s v here)

-- ---- the records tell it ----

epoch_self : (a b : EpochId) → a ≡ b → same_epoch a b ≡ true
epoch_self a b e = ap (same_epoch a) (sym e) ∙ itself a
  where
    itself : (a : EpochId) → same_epoch a a ≡ true
    itself a = grind (arith, nat_tests)

record_some : (n : ℕ) (id : EpochId) (r : Record) (older : Trace) → is_some (members_of older id) ≡ true → is_some (members_of (record { line = n; what = r } ∷ older) id) ≡ true
record_some n id (says.Join t i m) older h =
    elim (same_epoch i id) as (λ b. is_some (cond b (Some m) (members_of older id)) ≡ true) [
      | true ↦ refl
      | false ↦ h
    ]
record_some n id _ older h = h

told_some : (n : ℕ) (id : EpochId) (x : Told) (older : Trace) → is_some (members_of older id) ≡ true → is_some (members_of (with_told n x older) id) ≡ true
told_some n id (Shown r) older h = record_some n id r older h
told_some n id _ older h = h

joined_some : (s : ℕ) (id : EpochId) (m : Members) (trace : List Line) → Joined s id m trace → is_some (members_of (shown trace) id) ≡ true
joined_some s id m [] h = absurd h
joined_some s id m (x ∷ older) (inr h) = told_some x.number id x.told (shown older) (joined_some s id m older h)
joined_some s id m (x ∷ older) (inl h) = now x.number x.told (inl h)
  where
    now_record : (n : ℕ) (r : Record) → Joined s id m (record { number = n; told = Shown r } ∷ []) → is_some (members_of (record { line = n; what = r } ∷ shown older) id) ≡ true
    now_record n (says.Join t i k) (inl g) = ap (λ (b : Bool). is_some (cond b (Some k) (members_of (shown older) id))) (epoch_self i id g.1)
    now_record n _ (inl g) = absurd g
    now_record n _ (inr g) = absurd g

    now : (n : ℕ) (x : Told) → Joined s id m (record { number = n; told = x } ∷ []) → is_some (members_of (with_told n x (shown older)) id) ≡ true
    now n (Shown r) g = now_record n r g
    now n _ (inl g) = absurd g
    now n _ (inr g) = absurd g

pub list_told : (c : Config) (lines : List ScheduleLine) (s : ℕ) (v : SiteView) (e : InEpoch) → place_at (run_in c lines) s ≡ Some (Running v) → v.epoch ≡ Some e → members_of (trace_of (run_in c lines)) e.id ≡ Some e.members
list_told c lines s v e here k = by_list (members_of (trace_of (run_in c lines)) e.id) refl
  where
    j : Joined e.id.site e.id e.members (run_in c lines).trace
    j = (epochs_joined c lines).joined s v e here k

    false_true : false ≡ true → ⊥
    false_true f = cc

    by_list : (o : Option Members) → members_of (trace_of (run_in c lines)) e.id ≡ o → members_of (trace_of (run_in c lines)) e.id ≡ Some e.members
    by_list None f = absurd (false_true (sym (ap is_some f) ∙ joined_some e.id.site e.id e.members (run_in c lines).trace j))
    by_list (Some m) f =
        let g : (t : ℕ) × Joined t e.id m (run_in c lines).trace = listed_before e.id (run_in c lines).trace m f in
        f ∙ ap Some (one_list c lines g.0 e.id.site e.id m e.members g.1 j)
