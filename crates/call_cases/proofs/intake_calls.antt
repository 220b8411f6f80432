mod Relays
