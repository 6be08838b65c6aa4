use Rattle.wait_core.proofs.Common.{◌≡◌, ◌≢◌, refl, [], All, subst, sym, AllPairs, Wait, locks_of, waits_of, policy_of, has_pair, changed_files, IsOff, IsOn, TellsPair, waits_on, IsWellFormed}
use Rattle.wait_core.proofs.FileLemmas.{all_from, all_on, length_on, on_file_on, well_formed_on}
use Rattle.wait_core.proofs.LinkLemmas.{lead_apart}
use Rattle.wait_core.proofs.PairLemmas.{told-owner, told-off}
use Rattle.wait_core.proofs.SettledLemmas.{elsewhere_off}
use Rattle.wait_core.proofs.waits.Waits.refresh_owner.Goals as goal

pub on-requires : goal.on-requires
on-requires c =
    let self = c.args.self.now in
    (waits_on self.waits.items, self.linked, length_on self.waits.items c.args.file self.short)

pub tell_of_owner-requires-clause-waits : goal.tell_of_owner-requires-clause-waits
tell_of_owner-requires-clause-waits c =
    let self = c.args.self.now in
    subst (All (IsWellFormed 64)) (sym (c.on.ensures (waits_on self.waits.items) self.linked (length_on self.waits.items c.args.file self.short)))
    (well_formed_on self.processes self.waits.items c.args.file self.few self.well_formed)

pub tell_of_owner-requires-clause-apart : goal.tell_of_owner-requires-clause-apart
tell_of_owner-requires-clause-apart c =
    let self = c.args.self.now in
    subst (AllPairs (λ (v w : Wait). v.p ≢ w.p)) (sym (c.on.ensures (waits_on self.waits.items) self.linked (length_on self.waits.items c.args.file self.short)))
    (lead_apart _ c.args.file _ (waits_on self.waits.items c.args.file) (self.linked.lead c.args.file))

pub tell_of_owner-requires-clause-on_file : goal.tell_of_owner-requires-clause-on_file
tell_of_owner-requires-clause-on_file c =
    let self = c.args.self.now in
    subst (All (λ w. w.file ≡ c.args.file)) (sym (c.on.ensures (waits_on self.waits.items) self.linked (length_on self.waits.items c.args.file self.short)))
    (on_file_on self.waits.items c.args.file)

pub returns-then-has_wait_on-clause-told : goal.returns-then-has_wait_on-clause-told
unfolding waits_of has_pair
returns-then-has_wait_on-clause-told c locks was agree =
    let self = c.args.self.now in
    let waits = self.waits.items in
    let file = c.args.file in
    let span = c.args.span in
    let on = c.on.ensures (waits_on waits) self.linked (length_on waits file self.short) in
    let pairs = c.tell_of_owner.new.self in
    let after = locks_of c.args.books.now in
    c.touch.ensures.told after
    (told-owner self _ locks after file self.processes c.args.owner span refl self.apart self.well_formed
    (λ q itself one few. all_from (λ w. IsOn file span w → TellsPair pairs after q w) file (λ w other here. absurd (other here.0)) waits
    (subst (All (λ w. IsOn file span w → TellsPair pairs after q w)) on (c.tell_of_owner.ensures.told q itself one few)))
    (λ p q few off. c.tell_of_owner.ensures.others p q few (λ itself. subst (All (IsOff p file span)) (sym on) (all_on (IsOff p file span) file waits (off itself))))
    agree was)

pub returns-else-has_wait_on-clause-told : goal.returns-else-has_wait_on-clause-told
unfolding waits_of has_pair
returns-else-has_wait_on-clause-told c locks was agree =
    let self = c.args.self.now in
    told-off self locks (locks_of c.args.books.now) c.args.file self.processes c.args.owner c.args.span self.apart self.well_formed
    (λ any. (let yes = c.has_wait_on.ensures.1 any in let no = c.if-has_wait_on.false in cc)) agree was

pub returns-else-has_wait_on-clause-blocked : goal.returns-else-has_wait_on-clause-blocked
unfolding waits_of policy_of changed_files
returns-else-has_wait_on-clause-blocked c within locks was agree =
    let self = c.args.self.now in
    record {
      blocked = elsewhere_off self.changed self.policy locks (locks_of c.args.books.now) c.args.file self.processes c.args.span agree [] self.waits.items self.well_formed
          (λ any. (let yes = c.has_wait_on.ensures.1 any in let no = c.if-has_wait_on.false in cc)) was.blocked;
    }
