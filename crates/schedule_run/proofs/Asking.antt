-- What a line of a tree asks, and the lines of the run with one call more.
use Rattle.std.proofs.Common.{◌≡◌, ℕ, ◌==◌, true, false, Bool, List, [], ◌∷◌, ◌++◌, Option, None, Some, Result, Err, codes, refl, sym, ap, subst, ◌∙◌, append_assoc}
use Rattle.std.specs.List.{AllByRecursion, flat_map}
use Rattle.std.proofs.lemmas.Grind.{flat_map-append}
use Rattle.std.proofs.lemmas.Bool.{false≢true}
use Rattle.locus_ids.specs.declared.config.Config.{Config}
use Rattle.schedule_lines.specs.Cluster.{header_of}
use Rattle.schedule_lines.specs.Ranges.{fits_event}
use Rattle.schedule_lines.specs.Schedule.{AreInOrder}
use Rattle.schedule_lines.specs.Spelling.{event_spelling, is_passed}
use Rattle.schedule_lines.specs.declared.header.Header.{Header}
use Rattle.schedule_lines.specs.declared.line.Line.{Line}
use Rattle.schedule_lines.specs.declared.line.Line.TheVariants as line
use Rattle.schedule_lines.specs.declared.line.ScheduleLine.{ScheduleLine}
use Rattle.schedule_lines.specs.declared.line.ScheduleLine.TheVariants.{Event}
use Rattle.std.specs.Result.{IsErrAnd}
use Rattle.line_text.specs.Reading.{IsLineOf}
use Rattle.line_text.specs.declared.fault.LineFault.{LineFault}
use Rattle.line_text.specs.declared.fault.LineFault.TheVariants as text
use Rattle.schedule_run.specs.declared.fault.RunFault.{RunFault}
use Rattle.schedule_run.specs.declared.fault.RunFault.TheVariants as run
use Rattle.world.specs.declared.fault.WorldFault.{WorldFault}
use Rattle.the_run.specs.Commands.{Asked, asked_lines, opening_lines, tree_lines}
use Rattle.schedule_run.specs.Opened.{HasDone}
use Rattle.schedule_run.specs.declared.tree.TreeRunner.{TreeRunner}
use Rattle.the_run.specs.Asking.{tree_cluster, call_line, Asks, MayAsk}
use Rattle.input_order_laws.specs.Inputs.{IsOnCluster}
use Rattle.input_order_laws.proofs.Trees.{tree_in_order}
use Rattle.schedule_run.specs.Tree.{replies_taken, HasRun, RunsNext}

-- the first byte is that of a call
abbrev begins_call : List ℕ → Bool
begins_call [] = false
begins_call (c ∷ cs) = c == 99

-- a line that begins as a call does is one
pub is_call : (bytes : List ℕ) (e : Line) → codes "call " ++ bytes ≡ event_spelling e → (a : Asked) × (e ≡ call_line a)
is_call bytes (line.Call site process words) e = (record { site = site; process = process; words = words }, refl)
is_call bytes (line.Deliver packet) e = absurd (false≢true (sym (ap begins_call e)))
is_call bytes (line.Lose packet) e = absurd (false≢true (sym (ap begins_call e)))
is_call bytes (line.Tick site) e = absurd (false≢true (sym (ap begins_call e)))
is_call bytes (line.Down one other) e = absurd (false≢true (sym (ap begins_call e)))
is_call bytes (line.Up one other) e = absurd (false≢true (sym (ap begins_call e)))
is_call bytes (line.Part site) e = absurd (false≢true (sym (ap begins_call e)))
is_call bytes (line.Merge site) e = absurd (false≢true (sym (ap begins_call e)))
is_call bytes (line.GiveUp site) e = absurd (false≢true (sym (ap begins_call e)))
is_call bytes (line.Stop site) e = absurd (false≢true (sym (ap begins_call e)))
is_call bytes (line.ArmStop site calls leave) e = absurd (false≢true (sym (ap begins_call e)))
is_call bytes (line.ArmFail site calls) e = absurd (false≢true (sym (ap begins_call e)))
is_call bytes (line.Boot site) e = absurd (false≢true (sym (ap begins_call e)))
is_call bytes (line.Settle most) e = absurd (false≢true (sym (ap begins_call e)))
is_call bytes line.Pending e = absurd (false≢true (sym (ap begins_call e)))

-- the lines of the run with one call more
pub lines_more : (calls : List Asked) (a : Asked) → (tree_lines calls ++ Event (call_line a) ∷ []) ++ Event (line.Settle 100000) ∷ [] ≡ tree_lines (calls ++ a ∷ [])
lines_more calls a =
    append_assoc (tree_lines calls) (Event (call_line a) ∷ []) (Event (line.Settle 100000) ∷ [])
    ∙ (append_assoc (opening_lines 100000) (flat_map (asked_lines 100000) calls) (asked_lines 100000 a)
    ∙ ap (λ (ls : List ScheduleLine). opening_lines 100000 ++ ls) (sym (flat_map-append (asked_lines 100000) calls (a ∷ []))))

-- a line of the cluster that begins as a call does is asked
pub may_ask : (calls : List Asked) (bytes taken : List ℕ) (e : Line) (old : TreeRunner) → HasRun calls taken old → IsLineOf old.header (codes "call " ++ bytes) e → MayAsk bytes
may_ask calls bytes taken e old h is =
    let k = is_call bytes e is.0 in
    let fits : fits_event tree_cluster.sites e ≡ true = subst (λ (x : Header). fits_event x.config.sites e ≡ true) h.header is.2 in
    record {
      asked = k.0;
      asks = (is.0 ∙ ap event_spelling k.1, subst (λ (x : Line). fits_event tree_cluster.sites x ≡ true) k.1 fits);
    }

-- after the call and the settle
pub call_next : (calls : List Asked) (bytes taken : List ℕ) (e : Line) (old new : TreeRunner) → HasRun calls taken old → IsLineOf old.header (codes "call " ++ bytes) e → new.header ≡ old.header
    → HasDone ((tree_lines calls ++ Event e ∷ []) ++ Event (line.Settle 100000) ∷ []) (replies_taken taken) new.run → RunsNext calls bytes taken new
call_next calls bytes taken e old new h is eh d =
    let k = is_call bytes e is.0 in
    let fits : fits_event tree_cluster.sites e ≡ true = subst (λ (x : Header). fits_event x.config.sites e ≡ true) h.header is.2 in
    record {
      asked = Some k.0;
      asks = (is.0 ∙ ap event_spelling k.1, subst (λ (x : Line). fits_event tree_cluster.sites x ≡ true) k.1 fits);
      ran = record {
        header = eh ∙ h.header;
        done = subst (λ (ls : List ScheduleLine). HasDone ls (replies_taken taken) new.run) (lines_more calls k.0)
            (subst (λ (x : Line). HasDone ((tree_lines calls ++ Event x ∷ []) ++ Event (line.Settle 100000) ∷ []) (replies_taken taken) new.run) k.1 d);
      };
    }

-- nothing is asked where the bytes are no comment and no line is spelled so
pub asks_nothing : (calls : List Asked) (bytes taken : List ℕ) (r : TreeRunner) → HasRun calls taken r → is_passed bytes ≡ false → ((l : Line) → IsLineOf r.header (codes "call " ++ bytes) l → ⊥) → (asked : Option Asked) → Asks bytes asked → ⊥
asks_nothing calls bytes taken r h more none None asks = false≢true (sym more ∙ asks)
asks_nothing calls bytes taken r h more none (Some a) asks =
    none (call_line a) (asks.0, ap (λ (x : Header). x.whole) h.header, subst (λ (x : Header). fits_event x.config.sites (call_line a) ≡ true) (sym h.header) asks.1)

abbrev whole_header : Config → Header
whole_header config = record { config = config; whole = true }

-- the header of the cluster
pub header_made : (config : Config) → config ≡ tree_cluster → record { config = config; whole = true } ≡ header_of tree_cluster
header_made config e = ap whole_header e

-- what a line's fault is made to
abbrev pub IsMadeOf : LineFault → RunFault → Type 0
IsMadeOf fault made = (made ≡ run.Bad → fault ≡ text.Bad) × ((f : WorldFault) → made ≡ run.World f → ⊥)

-- the line's fault that made a bad line
pub bad_is : {A : Type 0} (fault : LineFault) (result : Result A RunFault) → IsErrAnd result (IsMadeOf fault) → result ≡ Err run.Bad → fault ≡ text.Bad
bad_is {A} fault result h e = (subst (λ (r : Result A RunFault). IsErrAnd r (IsMadeOf fault)) e h).0 refl

-- no fault of a line is one of the world
pub no_world_is : {A : Type 0} (fault : LineFault) (result : Result A RunFault) (f : WorldFault) → IsErrAnd result (IsMadeOf fault) → result ≡ Err (run.World f) → ⊥
no_world_is {A} fault result f h e = (subst (λ (r : Result A RunFault). IsErrAnd r (IsMadeOf fault)) e h).1 f refl

-- the calls on the cluster, and one that was read
pub asked_order : (calls : List Asked) (bytes taken : List ℕ) (e : Line) (r : TreeRunner) → HasRun calls taken r → AllByRecursion IsOnCluster calls → IsLineOf r.header (codes "call " ++ bytes) e
    → AreInOrder ((tree_lines calls ++ Event e ∷ []) ++ Event (line.Settle 100000) ∷ [])
asked_order calls bytes taken e r h on is =
    let k = is_call bytes e is.0 in
    let fits : fits_event tree_cluster.sites e ≡ true = subst (λ (x : Header). fits_event x.config.sites e ≡ true) h.header is.2 in
    let one : IsOnCluster k.0 = subst (λ (x : Line). fits_event tree_cluster.sites x ≡ true) k.1 fits in
    subst (λ (x : Line). AreInOrder ((tree_lines calls ++ Event x ∷ []) ++ Event (line.Settle 100000) ∷ [])) (sym k.1)
    (subst AreInOrder (sym (lines_more calls k.0)) (tree_in_order (calls ++ k.0 ∷ []) (with_one calls k.0 on one)))
  where
    with_one : (xs : List Asked) (a : Asked) → AllByRecursion IsOnCluster xs → IsOnCluster a → AllByRecursion IsOnCluster (xs ++ a ∷ [])
    with_one [] a all one = (one, tt)
    with_one (x ∷ xs) a all one = (all.0, with_one xs a all.1 one)
