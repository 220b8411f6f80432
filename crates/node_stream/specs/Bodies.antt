-- The body that a value of the program represents.
use Rattle.std.specs.Prelude.{◌≡◌, ◌+◌, ◌<◌, ◌≤◌, ◌++◌, length, drop, codes}
use Rattle.node_stream.specs.Telling.{BodyData}
use Rattle.node_stream.specs.Telling.BodyData.{Text, Raw}
use Rattle.node_stream.specs.declared.bodies.ReplyBody.{ReplyBody}
use Rattle.node_stream.specs.declared.bodies.ReplyBody.TheVariants.{Fixed, Short, Made, Bytes}

-- bytes stand behind their word and a space
abbrev pub body_data : ReplyBody → BodyData
body_data (Fixed text) = Text text.now
body_data (Short text) = Text text.items
body_data (Made text) = Text text.items
body_data (Bytes word all) = Raw word.now (drop (length word.now + 1) all.items)

-- behind a head there is room for it; what is made has room of its own
abbrev pub IsBody : ReplyBody → Type 0
IsBody (Fixed text) = length text.now ≤ 210
IsBody (Short text) = length text.items ≤ 210
IsBody (Made text) = Unit {0}
IsBody (Bytes word all) = (length word.now ≤ 100) × (all.items ≡ word.now ++ (codes " " ++ drop (length word.now + 1) all.items))

-- it represents the body
abbrev pub HasBody : ReplyBody → BodyData → Type 0
HasBody told what = (body_data told ≡ what) × IsBody told

-- it has more than 17 bytes, or took memory
abbrev pub IsLong : ReplyBody → Type 0
IsLong (Fixed text) = 17 < length text.now
IsLong (Short text) = 17 < length text.items
IsLong made = Unit {0}
