-- What packets of closes carry stays when a line is added.
use Rattle.std.proofs.Common.{◌≡◌, ℕ, Bool, true, false, ◌&&◌, ◌||◌, not, List, Option, Some, None, refl, sym, ◌∙◌, ap, subst, arith, ◌⊎◌, inl, inr}
use Rattle.std.proofs.lemmas.Bool.Decides.{nat_tests}
use Rattle.the_run.proofs.of_plain_facts.Options.{some_same}
use Rattle.the_run.proofs.of_plain_facts.Tests.{true_false}
use Rattle.locus_ids.specs.declared.config.Config.{Config}
use Rattle.locus_ids.specs.declared.ids.CallId.{CallId}
use Rattle.locus_ids.specs.declared.ids.EpochId.{EpochId}
use Rattle.locus_ids.specs.declared.ids.FileId.{FileId}
use Rattle.locus_ids.specs.declared.ids.Serial.{Serial}
use Rattle.locus_ids.specs.declared.ids.Stamp.{Stamp}
use Rattle.commit_graph.specs.Versions.{same_file, same_stamp}
use Rattle.commit_graph.specs.declared.history.Version.{Version}
use Rattle.lawful_trace.specs.of_file_effects.declared.work.Work.{Work}
use Rattle.trace_book.specs.declared.operation.Op.{Op}
use Rattle.trace_book.specs.declared.record.Record.{Record}
use Rattle.trace_book.specs.declared.record.Record.TheVariants as says
use Rattle.call_rules.specs.declared.answer.Answer.{Answer}
use Rattle.call_rules.specs.declared.want.Want.{Want}
use Rattle.call_rules.specs.declared.want.Want.TheVariants as want
use Rattle.the_run.specs.of_role_steps.Views.{Told, Shown}
use Rattle.the_run.specs.Worlds.{Line}
use Rattle.lawful_trace.specs.of_tree_model.declared.instance.Granted.{Granted}
use Rattle.lawful_trace.specs.of_tree_model.declared.instance.Instance.{Instance}
use Rattle.lawful_trace.specs.of_tree_model.Given.{instance_ends, gives_release}
use Rattle.lawful_trace.specs.of_tree_model.Histories.{history}
use Rattle.lawful_trace.specs.of_tree_model.Same.{same_version}
use Rattle.lawful_trace.specs.of_tree_model.State.{TreeState, instance_in}
use Rattle.lawful_trace.specs.of_tree_model.Tree.{tree_of}
use Rattle.lawful_trace.specs.of_tree_model.Working.{is_spent}
use Rattle.lawful_trace.specs.Progress.{close_answer}
use Rattle.lawful_trace.specs.TreeRows.{IsCallIn, granted_group}
use Rattle.lawful_trace.specs.Tables.{call_of_act}
use Rattle.tree_laws.specs.Printed.{entries}
use Rattle.tree_laws.specs.Calls.{Asks}
use Rattle.tree_laws.specs.Past.{WasReleased, WasReleasedWith, ReleaseRecord, EndRecord}
use Rattle.tree_laws.specs.Instances.{IsOpening}
use Rattle.tree_laws.specs.Following.{MayTell, IsFollowed}
use Rattle.tree_laws.specs.Frames.{OwnersStay, CommitsTold, CommitsOwe}
use Rattle.tree_laws.specs.Packets.{ClosesNow, CloseFact, EndsNow}
use Rattle.tree_laws.proofs.Scripts.{in_stays}
use Rattle.tree_laws.proofs.Asking.{AsksStill, StepRecord, StepOf, asks_stays}
use Rattle.tree_laws.proofs.CarriedLooks.{More, one_epoch, one_want}
use Rattle.tree_laws.proofs.Grants.{open_named}
use Rattle.tree_laws.proofs.Owners.{release_owner_stays}
use Rattle.tree_laws.proofs.Kinship.{StaysOpen, Ends, open_stays}
use Rattle.tree_laws.proofs.Opened.{EndsIt, ActsOn, CommitsOn, GoesOn}

close_serial : (i j : Serial) → want.Close i ≡ want.Close j → i ≡ j
close_serial i j e = cc

do_not_close : (i j : Serial) (o : Op) → want.Do i o ≡ want.Close j → ⊥
do_not_close i j o e = cc

-- a step of a call that closes an instance is its release
close_step : (c : Config) (older : List Line) (e : EpochId) (ss : ℕ) (i : Serial) (at : Instance) (k : ClosesNow c older e ss i at) (r : Record) → MayTell c older (Shown r) → StepRecord (entries older) r k.call → EndsIt e i r
close_step c older e ss i at k (says.Release there inst file stamp) may step = (same_at, close_serial inst i (one_want c older k.call (want.Close inst) (want.Close i) (subst (λ (y : CallId). Asks c older y (want.Close inst)) (some_same may.in_time.call k.call (sym may.in_time.owner ∙ step)) may.in_time.asks) k.asks))
  where
    same_at : there ≡ e
    same_at = one_epoch older there e k.call (subst (λ (y : CallId). IsCallIn (entries older) there y) (some_same may.row.step.call k.call (sym may.row.step.owned ∙ step)) may.row.step.step) k.inside
close_step c older e ss i at k (says.Act there inst number what result) may step = absurd (do_not_close inst i what (one_want c older k.call (want.Do inst what) (want.Close i) (subst (λ (y : CallId). Asks c older y (want.Do inst what)) (some_same may.in_time.call k.call (sym may.in_time.owner ∙ step)) may.in_time.asks) k.asks))
close_step c older e ss i at k (says.Look there call number file what result) may step = absurd (other (one_want c older k.call (want.Look file what) (want.Close i) (subst (λ (y : CallId). Asks c older y (want.Look file what)) step may.in_time.asks) k.asks))
  where
    other : want.Look file what ≡ want.Close i → ⊥
    other e = cc
close_step c older e ss i at k (says.Grant there call number inst m file stamp place) may step = absurd (subst (λ (y : Want). IsOpening c y may.in_time.opens.asked may.in_time.opens.it) (one_want c older k.call may.in_time.opens.asks.wanted (want.Close i) (subst (λ (y : CallId). Asks c older y may.in_time.opens.asks.wanted) step may.in_time.opens.asks.asks) k.asks) may.in_time.opens.asks.opening_is)
close_step c older e ss i at k (says.Refuse there call number inst m file why) may step = absurd (subst (λ (y : Want). IsOpening c y may.in_time.opens.asked may.in_time.opens.it) (one_want c older k.call may.in_time.opens.asks.wanted (want.Close i) (subst (λ (y : CallId). Asks c older y may.in_time.opens.asks.wanted) step may.in_time.opens.asks.asks) k.asks) may.in_time.opens.asks.opening_is)
close_step c older e ss i at k _ may step = absurd step

-- how an instance that is being closed goes on: no operation is done on it
pub record StaysClosing (c : Config) (n : ℕ) (x : Told) (older : List Line) (e : EpochId) (ss : ℕ) (i : Serial) (at : Instance) : Type 0 where
  pub new : Instance
  pub closes : ClosesNow c (More n x older) e ss i new
  pub work : (new.work ≡ at.work) ⊎ CommitsTold c older e i at x

-- an instance that is closed stays so until it is released
pub closing_stays : (c : Config) (n : ℕ) (x : Told) (older : List Line) → IsFollowed c older → MayTell c older x → OwnersStay c older (More n x older) → (e : EpochId) (ss : ℕ) (i : Serial) (at : Instance) → ClosesNow c older e ss i at → StaysClosing c n x older e ss i at ⊎ Ends e i x
closing_stays c n x older h may owners e ss i at now = over x may owners (asks_stays c n x older now.call (want.Close i) h may (now.inside.accepted, now.inside.named) now.asks) (open_stays c older n x e i at may (open_named c older e i at now.open_at.found) now.open_at.found) (in_stays c n x older e now.call h may now.inside)
  where
    still : (y : Told) → MayTell c older y → OwnersStay c older (More n y older) → IsCallIn (entries (More n y older)) e now.call → AsksStill c older n y now.call (want.Close i) → (s : StaysOpen c older n y e i at) → (s.new.work ≡ at.work) ⊎ CommitsTold c older e i at y → StaysClosing c n y older e ss i at
    still y m owners inside a s work = record {
      new = s.new;
      closes = record {
        call = now.call;
        owner = release_owner_stays c older n y m e i now.call now.asks now.owner;
        inside = inside;
        asks = a.asks;
        open_at = record { found = s.found; place = ap (λ (g : Granted). g.ss) s.grant_same ∙ now.open_at.place };
      };
      work = work;
    }

    acted : (r : Record) → MayTell c older (Shown r) → OwnersStay c older (More n (Shown r) older) → (new : Instance) → ActsOn (history c (entries older)) (tree_of c e (granted_group (entries older) e i) (entries older)) e i at new r → ⊥
    acted (says.Act there inst number what result) m owners new a = owners.alone e i number m.in_time.call now.call what (subst (λ (j : Serial). Asks c older m.in_time.call (want.Do j what)) a.0.1 m.in_time.asks)
        (subst (λ (j : Serial). call_of_act (entries older) e j number ≡ Some m.in_time.call) a.0.1 (subst (λ (y : EpochId). call_of_act (entries older) y inst number ≡ Some m.in_time.call) a.0.0 m.in_time.owner)) now.asks now.owner
    acted _ m owners new a = absurd a

    committed : (r : Record) (new : Instance) → CommitsOn (tree_of c e (granted_group (entries older) e i) (entries older)) at new r → CommitsTold c older e i at (Shown r)
    committed (says.Commit f s stamp parents content) new a = (a.0, a.1)
    committed _ new a = absurd a

    goes : (r : Record) → MayTell c older (Shown r) → OwnersStay c older (More n (Shown r) older) → IsCallIn (entries (More n (Shown r) older)) e now.call → AsksStill c older n (Shown r) now.call (want.Close i) → (s : StaysOpen c older n (Shown r) e i at) →
        GoesOn (history c (entries older)) (tree_of c e (granted_group (entries older) e i) (entries older)) e i at s.new r → StaysClosing c n (Shown r) older e ss i at
    goes r m owners inside a s (inl same) = still (Shown r) m owners inside a s (inl (ap (λ (y : Instance). y.work) same))
    goes r m owners inside a s (inr (inl acts)) = absurd (acted r m owners s.new acts)
    goes r m owners inside a s (inr (inr commits)) = still (Shown r) m owners inside a s (inr (committed r s.new commits))

    over : (y : Told) → MayTell c older y → OwnersStay c older (More n y older) → AsksStill c older n y now.call (want.Close i) ⊎ StepOf older y now.call → StaysOpen c older n y e i at ⊎ Ends e i y → IsCallIn (entries (More n y older)) e now.call → StaysClosing c n y older e ss i at ⊎ Ends e i y
    over (Shown r) m owners (inr step) place inside = inr (close_step c older e ss i at now r m step)
    over (Shown r) m owners (inl a) (inl s) inside = inl (goes r m owners inside a s s.goes)
    over y m owners (inl a) (inr end) inside = inr end
    over y m owners (inl a) (inl s) inside = inl (still y m owners inside a s (inl (ap (λ (z : Instance). z.work) s.goes)))
    over _ m owners (inr step) place inside = absurd step

-- ---- Close ----

ends_record : (e : EpochId) (i : Serial) (older : List Line) (r : Record) → EndsIt e i r → EndRecord e i older r
ends_record e i older (says.Release there inst file stamp) end = record { epoch_is = end.0; serial_is = end.1 }
ends_record e i older _ end = absurd end

released_now : (n : ℕ) (x : Told) (older : List Line) (e : EpochId) (i : Serial) → Ends e i x → WasReleased (More n x older) e i
released_now n (Shown r) older e i end = inl (ends_record e i older r end)
released_now n _ older e i end = absurd end

pub close_stays : (c : Config) (n : ℕ) (x : Told) (older : List Line) → IsFollowed c older → MayTell c older x → OwnersStay c older (More n x older) → (e : EpochId) (ss : ℕ) (i : Serial) → CloseFact c older e ss i → CloseFact c (More n x older) e ss i
close_stays c n x older h may owners e ss i (inl p) = inl (inr p)
close_stays c n x older h may owners e ss i (inr k) = over (closing_stays c n x older h may owners e ss i k.0 k.1)
  where
    over : StaysClosing c n x older e ss i k.0 ⊎ Ends e i x → CloseFact c (More n x older) e ss i
    over (inl s) = inr (s.new, s.closes)
    over (inr end) = inl (released_now n x older e i end)

-- ---- Closed ----

same_stamp_eq : (a b : Stamp) → same_stamp a b ≡ true → a ≡ b
same_stamp_eq a b h = id_eq (grind (arith, nat_tests)) (grind (arith, nat_tests))
  where
    id_eq : a.site ≡ b.site → a.n ≡ b.n → a ≡ b
    id_eq e f = λ i. record { site = e i; n = f i }

same_version_eq : (a b : Option Stamp) → same_version a b ≡ true → a ≡ b
same_version_eq None None h = refl
same_version_eq (Some a) (Some b) h = ap Some (same_stamp_eq a b h)
same_version_eq None (Some b) h = absurd (true_false (sym h))
same_version_eq (Some a) None h = absurd (true_false (sym h))

-- what is released is its last commit
pub released_last : (h : List Version) (t : TreeState) (i : Serial) (f : FileId) (stamp : Option Stamp) (x : Instance) → instance_in t i ≡ Some x → gives_release h t i f stamp ≡ true → stamp ≡ x.work.committed
released_last h t i f stamp x found gives = same_version_eq stamp x.work.committed (second (same_file x.grant.file f) (same_version stamp x.work.committed) (not x.work.owes || is_spent h t x) (subst (λ (y : Option Instance). instance_ends h t f stamp y ≡ true) found gives))
  where
    second : (a b d : Bool) → a && (b && d) ≡ true → b ≡ true
    second true true d k = refl
    second true false d k = absurd (true_false (sym k))
    second false b d k = absurd (true_false (sym k))

released_with : (c : Config) (n : ℕ) (x : Told) (older : List Line) (e : EpochId) (ss : ℕ) (i : Serial) (last : Option Stamp) → MayTell c older x → EndsNow c older e ss i last → Ends e i x → (a : Answer) × WasReleasedWith c (More n x older) e i last a
released_with c n (Shown r) older e ss i last may k end = (let it : (a : Answer) × ReleaseRecord c e i last a older r = over r may end in (it.0, inl it.1))
  where
    over : (r : Record) → MayTell c older (Shown r) → EndsIt e i r → (a : Answer) × ReleaseRecord c e i last a older r
    over (says.Release there inst file stamp) m end = (close_answer stamp (instance_in (tree_of c e file.group (entries older)) inst), record { epoch_is = end.0; serial_is = end.1; stamp_is = stamp_is; answer_is = refl })
      where
        gives : gives_release (history c (entries older)) (tree_of c e file.group (entries older)) i file stamp ≡ true
        gives = subst (λ (j : Serial). gives_release (history c (entries older)) (tree_of c e file.group (entries older)) j file stamp ≡ true) end.1 (subst (λ (y : EpochId). gives_release (history c (entries older)) (tree_of c y file.group (entries older)) inst file stamp ≡ true) end.0 m.row.gives)

        group : granted_group (entries older) e i ≡ file.group
        group = subst (λ (j : Serial). granted_group (entries older) e j ≡ file.group) end.1 (subst (λ (y : EpochId). granted_group (entries older) y inst ≡ file.group) end.0 m.in_time.group_is)

        stamp_is : stamp ≡ last
        stamp_is = released_last (history c (entries older)) (tree_of c e file.group (entries older)) i file stamp k.at (subst (λ (g : ℕ). instance_in (tree_of c e g (entries older)) i ≡ Some k.at) group k.closes.open_at.found) gives ∙ k.committed
    over _ m end = absurd end
released_with c n _ older e ss i last may k end = absurd end

-- a closed instance stays closed until it is released, with what it has committed
pub ends_stay : (c : Config) (n : ℕ) (x : Told) (older : List Line) → IsFollowed c older → MayTell c older x → OwnersStay c older (More n x older) → CommitsOwe c older x → (e : EpochId) (ss : ℕ) (i : Serial) (last : Option Stamp) → EndsNow c older e ss i last →
    ((a : Answer) × WasReleasedWith c (More n x older) e i last a) ⊎ EndsNow c (More n x older) e ss i last
ends_stay c n x older h may owners owe e ss i last k = over (closing_stays c n x older h may owners e ss i k.at k.closes)
  where
    owed : CommitsTold c older e i k.at x → ⊥
    owed t = true_false (sym (owe.owes e i k.at k.closes.open_at.found t) ∙ k.owes)

    kept : (s : StaysClosing c n x older e ss i k.at) → (s.new.work ≡ k.at.work) ⊎ CommitsTold c older e i k.at x → EndsNow c (More n x older) e ss i last
    kept s (inl same) = record { at = s.new; closes = s.closes; shut = inr k.shut; owes = ap (λ (w : Work). w.owes) same ∙ k.owes; committed = ap (λ (w : Work). w.committed) same ∙ k.committed }
    kept s (inr t) = absurd (owed t)

    over : StaysClosing c n x older e ss i k.at ⊎ Ends e i x → ((a : Answer) × WasReleasedWith c (More n x older) e i last a) ⊎ EndsNow c (More n x older) e ss i last
    over (inl s) = inr (kept s s.work)
    over (inr end) = inl (released_with c n x older e ss i last may k end)
