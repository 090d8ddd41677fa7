-- What a storage site is closing was begun on the file on which it was granted, and each open of it that a synchronization site has is of that
-- file.
use Rattle.std.proofs.Common.{◌≡◌, ℕ, ◌⊎◌, Bool, true, false, List, [], ◌∷◌, Option, refl, sym, ◌∙◌, ap, subst, inl, inr}
use Rattle.std.specs.List.{list_any}
use Rattle.role_steps.proofs.of_plain_facts.Tests.{or_either, or_first, or_second}
use Rattle.locus_ids.specs.declared.config.Config.{Config}
use Rattle.locus_ids.specs.declared.ids.CallId.{CallId}
use Rattle.locus_ids.specs.declared.ids.EpochId.{EpochId}
use Rattle.locus_ids.specs.declared.ids.FileId.{FileId}
use Rattle.locus_ids.specs.declared.ids.Mode.{Mode}
use Rattle.locus_ids.specs.declared.ids.Mode.TheVariants as mode
use Rattle.locus_ids.specs.declared.ids.Serial.{Serial}
use Rattle.locus_ids.specs.declared.ids.Stamp.{Stamp}
use Rattle.trace_book.specs.Same.{same_serial}
use Rattle.role_steps.specs.Views.{Told, Shuts}
use Rattle.role_steps.specs.declared.synchronizing.OpenRow.{OpenRow}
use Rattle.role_steps.specs.declared.synchronizing.OpenStage.{OpenStage}
use Rattle.role_steps.specs.declared.synchronizing.OpenStage.TheVariants as stage
use Rattle.the_run.specs.Kept.{Among}
use Rattle.the_run.specs.Worlds.{Line}
use Rattle.tree_laws.specs.Following.{IsFollowed, MayTell}
use Rattle.tree_laws.specs.Past.{ShutsIt, WasBegun, WasGranted, WasNamed, WasRefused, WasShut}
use Rattle.tree_laws.specs.Tables.{AskedFact, StageFact}
use Rattle.tree_laws.proofs.Names.{same_serial_eq, same_serial_own}
use Rattle.tree_laws.proofs.Serials.{unnamed}
use Rattle.store_laws.proofs.Begun.{granted_named}
use Rattle.store_laws.proofs.Places.{GrantedSo, granted_once, instance_granted}
use Rattle.tree_laws.proofs.Syncs.Answering.{one_answer}

-- ---- what is closed was begun on the file on which it was granted ----

pub record IsOnOneFile (trace : List Line) (e : EpochId) (i : Serial) : Type 0 where
  pub file : FileId
  pub site : ℕ
  pub begun : WasBegun trace site e i file
  pub call : CallId
  pub request : ℕ
  pub how : Mode
  pub stamp : Option Stamp
  pub place : ℕ
  pub granted : WasGranted trace e call request i how file stamp place

on_later : (x : Line) (older : List Line) (e : EpochId) (i : Serial) → IsOnOneFile older e i → IsOnOneFile (x ∷ older) e i
on_later x older e i k = record { file = k.file; site = k.site; begun = inr k.begun; call = k.call; request = k.request; how = k.how; stamp = k.stamp; place = k.place; granted = inr k.granted }

pub shut_on : (c : Config) (trace : List Line) → IsFollowed c trace → (s : ℕ) (e : EpochId) (i : Serial) → WasShut trace s e i → IsOnOneFile trace e i
shut_on c [] h s e i k = absurd k
shut_on c (x ∷ older) h s e i (inr k) = on_later x older e i (shut_on c older h.1 s e i k)
shut_on c (x ∷ older) h s e i (inl k) = on_later x older e i (now x.told h.0 k)
  where
    now : (z : Told) → MayTell c older z → ShutsIt s e i older z → IsOnOneFile older e i
    now (Shuts site at inst) may p = subst (λ (y : EpochId). IsOnOneFile older y i) p.epoch_is (subst (λ (j : Serial). IsOnOneFile older at j) p.serial_is
        (let g : GrantedSo older at may.at.grant × (may.at.grant.inst ≡ inst) = instance_granted c older at inst may.at may.open_at.found in record {
          file = may.at.grant.file;
          site = site;
          begun = may.runs.begun;
          call = may.at.grant.call;
          request = g.0.request;
          how = may.at.grant.mode;
          stamp = g.0.stamp;
          place = may.at.grant.ss;
          granted = subst (λ (j : Serial). WasGranted older at may.at.grant.call g.0.request j may.at.grant.mode may.at.grant.file g.0.stamp may.at.grant.ss) g.1 g.0.was_granted;
        }))
    now _ may p = absurd p

-- ---- rows ----

module _ (c : Config) (trace : List Line) (followed : IsFollowed c trace) (e : EpochId) (i : Serial) where
  module _ (b : CallId) (request : ℕ) (how : Mode) (file : FileId) (stamp : Option Stamp) (place : ℕ) (granted : WasGranted trace e b request i how file stamp place) where
    one_file : (r : OpenRow) (d : CallId) → r.inst ≡ i → WasGranted trace e d r.request r.inst r.mode r.file r.stamp r.ss → r.file ≡ file
    one_file r d same k = (granted_once c trace followed e d b r.request request i r.mode how r.file file r.stamp stamp r.ss place (subst (λ (j : Serial). WasGranted trace e d r.request j r.mode r.file r.stamp r.ss) same k) granted).file_is

    -- an open that waits for its storage site is granted, but for a make, which isn't named
    asked_file : (r : OpenRow) (d : CallId) (m : Mode) → r.inst ≡ i → r.mode ≡ m → AskedFact c trace e r d m → r.file ≡ file
    asked_file r d mode.Make same is k = absurd (unnamed c trace e k.make.call k.make.request r.inst k.make.file _ followed k.make.asks k.make.user_is (subst (λ (j : Serial). WasNamed trace e j) (sym same) (granted_named trace e b request i how file stamp place granted)))
    asked_file r d mode.Read same is k = one_file r d same k.0.was_granted
    asked_file r d mode.Write same is k = one_file r d same k.0.was_granted
    asked_file r d mode.Resolve same is k = one_file r d same k.0.was_granted
    asked_file r d mode.Mend same is k = one_file r d same k.0.was_granted

    -- each row of the instance is of its file
    pub row_file : (r : OpenRow) (d : CallId) (z : OpenStage) → r.inst ≡ i → StageFact c trace e r d z → r.file ≡ file
    row_file r d stage.Granted same k = one_file r d same k.0.was_granted
    row_file r d stage.Ended same k = one_file r d same k.0
    row_file r d stage.Asked same k = asked_file r d r.mode same refl k
    row_file r d (stage.Refused why) same k = absurd (one_answer c e i d b r.request request r.mode why how file stamp place trace followed (subst (λ (j : Serial). WasRefused trace e d r.request j r.mode why) same k) granted)

-- ---- opens by name ----

abbrev is_of : Serial → OpenRow → Bool
is_of i r = same_serial r.inst i

pub any_row : (i : Serial) (rs : List OpenRow) → list_any (is_of i) rs ≡ true → (r : OpenRow) × Among r rs × (r.inst ≡ i)
any_row i [] e = absurd (false_true e)
  where
    false_true : false ≡ true → ⊥
    false_true q = cc
any_row i (r ∷ rs) e = over (λ h. any_row i rs h) (or_either (is_of i r) (list_any (is_of i) rs) e)
  where
    over : (list_any (is_of i) rs ≡ true → (q : OpenRow) × Among q rs × (q.inst ≡ i)) → (is_of i r ≡ true) ⊎ (list_any (is_of i) rs ≡ true) → (q : OpenRow) × Among q (r ∷ rs) × (q.inst ≡ i)
    over later (inl h) = (r, inl refl, same_serial_eq r.inst i h)
    over later (inr h) = (let k : (q : OpenRow) × Among q rs × (q.inst ≡ i) = later h in (k.0, inr k.1, k.2))

pub any_there : (i : Serial) (rs : List OpenRow) (r : OpenRow) → Among r rs → r.inst ≡ i → list_any (is_of i) rs ≡ true
any_there i [] r a e = absurd a
any_there i (x ∷ xs) r (inl same) e = or_first (is_of i x) (list_any (is_of i) xs) (subst (λ (j : Serial). same_serial j i ≡ true) (sym (ap (λ (z : OpenRow). z.inst) (sym same) ∙ e)) (same_serial_own i))
any_there i (x ∷ xs) r (inr a) e = or_second (is_of i x) (list_any (is_of i) xs) (any_there i xs r a e)
