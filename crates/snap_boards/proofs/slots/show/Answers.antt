use Rattle.std.proofs.Common.{◌+◌, [], ◌∷◌, ◌++◌, length, drop, fold, ap, sym, ◌∙◌}
use Rattle.snap_boards.proofs.Versions.{goes-on, asked-last, length-push, both, either-way}
use Rattle.snap_boards.proofs.slots.show.Goals as goal

pub publish_as-requires : goal.publish_as-requires
publish_as-requires g c next is =
    let d = c.in-Ok.ensures.desk in
    let last = is ∙ ap (fold _ _) c.in-Ok.ensures.pending ∙ asked-last (c.append.new.self.desk.shown.value.version, c.append.new.self.desk.shown.value.forecast) (drop c.args.shower.behind c.args.shower.log.items) c.args.next in
    goes-on _ _ _ next
    (ap (λ k. length k.place.me.0.client) d ∙ c.requires.full ∙ sym (ap (λ k. k.shown.value.version) d))
    (ap (λ t. t.0) last ∙ c.requires.next ∙ sym (ap (λ k. k.shown.value.version + 1) d))

pub returns-clause-told : goal.returns-clause-told
returns-clause-told g c =
    let d = c.in-Ok.ensures.desk in
    let e = c.publish_as.ensures in
    both c.publish_as.result.1 _ _ _ _ _ _ e.rule e.values
    (λ _ rule values. rule ∙ ap (λ k. k.place.me.0.client ++ c.publish_as.result.0.desk.shown.value.forecast ∷ []) d
    ∙ ap (λ t. c.args.shower.desk.place.me.0.client ++ t.1 ∷ []) (values.0 ∙ ap (fold _ _) c.in-Ok.ensures.pending ∙ asked-last (c.append.new.self.desk.shown.value.version, c.append.new.self.desk.shown.value.forecast) (drop c.args.shower.behind c.args.shower.log.items) c.args.next))
    (λ _ rule values. rule ∙ ap (λ k. k.place.me.0.client) d)

pub returns-clause-full : goal.returns-clause-full
returns-clause-full g c =
    let d = c.in-Ok.ensures.desk in
    let e = c.publish_as.ensures in
    either-way c.publish_as.result.1 _ _ _ _ _ e.rule e.values
    (λ _ rule values. ap length rule ∙ length-push _ _ ∙ ap (λ k. length k.place.me.0.client + 1) d ∙ ap (λ n. n + 1) c.requires.full ∙ sym c.requires.next
    ∙ sym (ap (λ t. t.0) (values.0 ∙ ap (fold _ _) c.in-Ok.ensures.pending ∙ asked-last (c.append.new.self.desk.shown.value.version, c.append.new.self.desk.shown.value.forecast) (drop c.args.shower.behind c.args.shower.log.items) c.args.next)))
    (λ _ rule values. ap length rule ∙ ap (λ k. length k.place.me.0.client) d ∙ c.requires.full ∙ sym (ap (λ k. k.shown.value.version) d) ∙ sym (ap (λ s. s.version) values.0))
