use Rattle.page_versions.proofs.moving.publish_one.Goals as goal

pub returns-then-not-was_long-clause-capacity : goal.returns-then-not-was_long-clause-capacity
returns-then-not-was_long-clause-capacity c = c.push_reserved.ensures.capacity
