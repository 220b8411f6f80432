-- The replies to steps that are refused.
use Rattle.fleet_core.specs.declared.replies.Reply.{Reply}
use Rattle.fleet_core.specs.declared.replies.Reply.TheVariants.{NoNode, NoMessage, Uncovered, Refused, BrokenBlockChain, Memory}

-- there is no such node or message, the node does not answer for what was asked, it refuses the fact, the page's block chain is
-- broken, or there was no memory
abbrev pub IsRefusal : Reply → Type 0
IsRefusal (NoNode node) = Unit {0}
IsRefusal (NoMessage number) = Unit {0}
IsRefusal (Uncovered shown) = Unit {0}
IsRefusal (Refused why) = Unit {0}
IsRefusal (BrokenBlockChain page number) = Unit {0}
IsRefusal Memory = Unit {0}
IsRefusal reply = ⊥
