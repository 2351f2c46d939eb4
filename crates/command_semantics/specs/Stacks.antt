-- A stack of layers as its bytes and its layers.
use Rattle.layers.specs.declared.stack.Stack.{Stack}
use Rattle.layers.specs.Stack.{stack_contents, stack_layers}
use Rattle.whole_commands.specs.Devices.{Device}

abbrev pub device_of : Stack → Device
device_of stack = record { bytes = stack_contents stack; layers = stack_layers stack }
