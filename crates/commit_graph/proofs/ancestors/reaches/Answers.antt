use Rattle.std.proofs.Common.{◌≡◌, List, ◌-◌, true, false, ◌∷◌, ◌++◌, take, reverse, arith, sym, ◌∙◌, ap}
use Rattle.std.specs.List.{list_any}
use Rattle.locus_ids.specs.declared.ids.Stamp.{Stamp}
use Rattle.commit_graph.specs.declared.history.Version.{Version}
use Rattle.commit_graph.specs.Versions.{is_ancestor, same_file, same_stamp}
use Rattle.commit_graph.proofs.Names.{same_stamp_sym}
use Rattle.commit_graph.proofs.Wanted.{others, newest_of, any_found, any_wanted, any_not_wanted}
use Rattle.commit_graph.proofs.ancestors.reaches.Goals as goal

pub returns-then-is_same : goal.returns-then-is_same
returns-then-is_same c =
    let v = c.index-versions-left.result in
    let older : List Version = reverse (take (c.loop-left.left - 1) c.args.versions.now) in
    let mine : same_file v.file c.args.file ≡ true = sym c.is_same_file.ensures ∙ c.if-is_same_file.true in
    let it : same_stamp v.stamp c.args.a ≡ true = sym c.is_same.ensures ∙ c.if-is_same.true in
    let wants : list_any (λ s. same_stamp s v.stamp) c.loop-left.wanted.items ≡ true = ap (λ (ps : List Stamp). list_any (λ s. same_stamp s v.stamp) ps) (sym c.as_slice.ensures.value) ∙ (sym c.contains.ensures ∙ c.if-contains.true) in
    let more : reverse (take c.loop-left.left c.args.versions.now) ≡ v ∷ older =
    newest_of c.args.versions.now c.loop-left.left (c.loop-left.left - 1) v (omega arith) (omega arith) c.index-versions-left.is in
    sym (any_found v older c.args.file c.args.a c.loop-left.wanted.items mine wants (same_stamp_sym c.args.a v.stamp ∙ it))
    ∙ (sym (ap (λ (h : List Version). list_any (is_ancestor h c.args.file c.args.a) c.loop-left.wanted.items) more) ∙ c.loop-left.invariant.rest)

pub loop-left-preserved-in-Continue-1 : goal.loop-left-preserved-in-Continue-1
loop-left-preserved-in-Continue-1 c =
    let v = c.index-versions-left.result in
    let older : List Version = reverse (take (c.loop-left.left - 1) c.args.versions.now) in
    let mine : same_file v.file c.args.file ≡ true = sym c.is_same_file.ensures ∙ c.if-is_same_file.true in
    let isnt : same_stamp v.stamp c.args.a ≡ false = sym c.is_same.ensures ∙ c.if-is_same.false in
    let wants : list_any (λ s. same_stamp s v.stamp) c.loop-left.wanted.items ≡ true = ap (λ (ps : List Stamp). list_any (λ s. same_stamp s v.stamp) ps) (sym c.as_slice.ensures.value) ∙ (sym c.contains.ensures ∙ c.if-contains.true) in
    let more : reverse (take c.loop-left.left c.args.versions.now) ≡ v ∷ older =
    newest_of c.args.versions.now c.loop-left.left (c.loop-left.left - 1) v (omega arith) (omega arith) c.index-versions-left.is in
    let items : c.extend_from_slice.new.self.items ≡ others v c.loop-left.wanted.items ++ v.parents = c.in_ok-extend_from_slice.ensures.items ∙ cc in
    record {
      bound = omega arith;
      rest = ap (list_any (is_ancestor older c.args.file c.args.a)) items
          ∙ (sym (any_wanted v older c.args.file c.args.a c.loop-left.wanted.items mine wants (same_stamp_sym c.args.a v.stamp ∙ isnt))
          ∙ (sym (ap (λ (h : List Version). list_any (is_ancestor h c.args.file c.args.a) c.loop-left.wanted.items) more) ∙ c.loop-left.invariant.rest));
    }

pub loop-left-preserved-else-contains : goal.loop-left-preserved-else-contains
loop-left-preserved-else-contains c =
    let v = c.index-versions-left.result in
    let older : List Version = reverse (take (c.loop-left.left - 1) c.args.versions.now) in
    let mine : same_file v.file c.args.file ≡ true = sym c.is_same_file.ensures ∙ c.if-is_same_file.true in
    let wants : list_any (λ s. same_stamp s v.stamp) c.loop-left.wanted.items ≡ false = ap (λ (ps : List Stamp). list_any (λ s. same_stamp s v.stamp) ps) (sym c.as_slice.ensures.value) ∙ (sym c.contains.ensures ∙ c.if-contains.false) in
    let more : reverse (take c.loop-left.left c.args.versions.now) ≡ v ∷ older =
    newest_of c.args.versions.now c.loop-left.left (c.loop-left.left - 1) v (omega arith) (omega arith) c.index-versions-left.is in
    record {
      bound = omega arith;
      rest = sym (any_not_wanted v older c.args.file c.args.a c.loop-left.wanted.items mine wants)
          ∙ (sym (ap (λ (h : List Version). list_any (is_ancestor h c.args.file c.args.a) c.loop-left.wanted.items) more) ∙ c.loop-left.invariant.rest);
    }
