use Rattle.std.specs.Prelude.{ℕ, List, ◌++◌, codes}
use Rattle.std.specs.Fmt.{decimal, signed_decimal}
use Rattle.kp_edge.specs.declared.end.End.{End}
use Rattle.kp_edge.specs.declared.end.End.TheVariants.{Ended, ClientTorn, BadSize, BadHead, UnsupportedApi, BadBody, TooManyEntries, ClientReadFault, FilterShut, NodeOutOfRange, NameTooLong, GrownPast, AskBudget, BrokerBadBody, AuthorityFault, BrokerEnd, BrokerTorn, BrokerBadSize, Unasked, Mismatch, BrokerReadFault, BrokerWriteFault, ClientWriteFault, ThreadRefused, NoMemory}

-- how an end is written: its words, and each number in decimal behind its name
abbrev pub end_text : End → List ℕ
end_text Ended = codes "ended"
end_text (ClientTorn rest) = codes "client-torn rest=" ++ decimal rest
end_text (BadSize at size) = codes "bad-size at=" ++ decimal at ++ codes " size=" ++ signed_decimal size
end_text (BadHead request) = codes "bad-head request=" ++ decimal request
end_text (UnsupportedApi request key version) = codes "unsupported request=" ++ decimal request ++ codes " key=" ++ signed_decimal key ++ codes " version=" ++ signed_decimal version
end_text (BadBody request key version at) = codes "bad-body request=" ++ decimal request ++ codes " key=" ++ signed_decimal key ++ codes " version=" ++ signed_decimal version ++ codes " at=" ++ decimal at
end_text (TooManyEntries request at) = codes "too-many-entries request=" ++ decimal request ++ codes " at=" ++ decimal at
end_text ClientReadFault = codes "client-read-fault"
end_text (FilterShut request filter code) = codes "filter-shut request=" ++ decimal request ++ codes " filter=" ++ decimal filter ++ codes " code=" ++ decimal code
end_text (NodeOutOfRange request node) = codes "node-out-of-range request=" ++ decimal request ++ codes " node=" ++ signed_decimal node
end_text (NameTooLong request length) = codes "name-too-long request=" ++ decimal request ++ codes " length=" ++ decimal length
end_text (GrownPast request size) = codes "grown-past request=" ++ decimal request ++ codes " size=" ++ decimal size
end_text (AskBudget request) = codes "ask-budget request=" ++ decimal request
end_text (BrokerBadBody request key version) = codes "broker-bad-body request=" ++ decimal request ++ codes " key=" ++ signed_decimal key ++ codes " version=" ++ signed_decimal version
end_text (AuthorityFault request) = codes "authority-fault request=" ++ decimal request
end_text (BrokerEnd waiting) = codes "broker-end waiting=" ++ decimal waiting
end_text (BrokerTorn rest) = codes "broker-torn rest=" ++ decimal rest
end_text (BrokerBadSize at size) = codes "broker-bad-size at=" ++ decimal at ++ codes " size=" ++ signed_decimal size
end_text (Unasked found) = codes "unasked found=" ++ signed_decimal found
end_text (Mismatch expected found) = codes "mismatch expected=" ++ signed_decimal expected ++ codes " found=" ++ signed_decimal found
end_text BrokerReadFault = codes "broker-read-fault"
end_text BrokerWriteFault = codes "broker-write-fault"
end_text ClientWriteFault = codes "client-write-fault"
end_text ThreadRefused = codes "thread-refused"
end_text NoMemory = codes "no-memory"
